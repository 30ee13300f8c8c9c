-- Why a command ends, and the message.
use Rattle.std.specs.Prelude.{◌≡◌, ◌⊎◌, ℕ, Result, Ok, Err, List, [], ◌++◌, drop, codes, decimal}
use Rattle.jac_io.specs.Faults.{Rose}
use Rattle.jac_io.specs.Seen.{SinkSeen, Lasts}
use Rattle.jac_cli.specs.declared.words.Command.{Command}
use Rattle.jac_command_base.specs.declared.exit_reason.ExitReason.{ExitReason}
use Rattle.jac_command_base.specs.declared.exit_reason.ExitReason.TheVariants as exits
use Rattle.jac_serve_events.specs.declared.serve.EventFault.{EventFault}
use Rattle.jac_serve_events.specs.declared.serve.EventFault.TheVariants as event_faults
use Rattle.jac_serve_events.specs.declared.serve.ReplayError.{ReplayError}
use Rattle.jac_serve_events.specs.declared.serve.ReplayError.TheVariants as stops
use Rattle.jac_command_base.specs.declared.status.Status.{Status}
use Rattle.jac_command_base.specs.declared.status.Status.TheVariants as statuses
use Rattle.jac_cli.specs.Commands.{name_of, limit_text}
use Rattle.jac_serve_events.specs.Outside.{Span, Took, IsFront}

-- The reason for which serving that stopped ends the run.
abbrev pub exit_reason_of : ReplayError → ExitReason
exit_reason_of (stops.Refused event_fault) = exits.LineRefused event_fault
exit_reason_of stops.Write = exits.WriteFault
exit_reason_of stops.Memory = exits.Memory

-- The line that says why a line of the events is refused.
abbrev pub event_fault_line : EventFault → List ℕ
event_fault_line (event_faults.NoForm n) = codes "events: line " ++ decimal n ++ codes ": no form\n"
event_fault_line (event_faults.NotOpen n c) = codes "events: line " ++ decimal n ++ codes
    ": connection "
    ++ decimal c ++ codes " is not open\n"
event_fault_line (event_faults.AlreadyOpen n c) = codes "events: line " ++ decimal n ++ codes
    ": connection "
    ++ decimal c ++ codes " is open\n"

-- What follows the three letters of a role's name.
abbrev pub behind_role : List ℕ → List ℕ
behind_role line = drop 3 line

-- The line that says why a command ended. For the second application's refusal, it has `new`
-- instead of `app`.
abbrev pub fault_line : Command → ExitReason → List ℕ
fault_line command (exits.ReadFault role) = codes "read fault: " ++ name_of command role
    ++ codes "\n"
fault_line command (exits.TooLong role) = codes "too long: " ++ name_of command role ++ limit_text
    role
fault_line command (exits.AppRefused line) = line
fault_line command (exits.NewRefused line) = codes "new" ++ behind_role line
fault_line command (exits.UpgradeRefused line) = line
fault_line command (exits.LineRefused event_fault) = event_fault_line event_fault
fault_line command (exits.SessionsRefused line) = codes "sessions: line " ++ decimal line
    ++ codes "\n"
fault_line command exits.WriteFault = codes "write fault\n"
fault_line command exits.StoreFault = codes "store fault\n"
fault_line command exits.DoorFault = codes "door fault\n"
fault_line command (exits.OtherStore stored wanted) = codes "other schema: " ++ stored
    ++ codes " | " ++ wanted ++ codes "\n"
fault_line command exits.Memory = codes "memory\n"

abbrev pub status_of : ExitReason → Status
status_of (exits.ReadFault role) = statuses.ReadFault
status_of (exits.TooLong role) = statuses.TooLong
status_of (exits.AppRefused line) = statuses.AppRefused
status_of (exits.NewRefused line) = statuses.AppRefused
status_of (exits.UpgradeRefused line) = statuses.UpgradeRefused
status_of (exits.LineRefused event_fault) = statuses.LineRefused
status_of (exits.SessionsRefused line) = statuses.LineRefused
status_of exits.WriteFault = statuses.WriteFault
status_of exits.StoreFault = statuses.StoreFault
status_of exits.DoorFault = statuses.DoorFault
status_of (exits.OtherStore stored wanted) = statuses.OtherStore
status_of exits.Memory = statuses.Memory

-- The last line is put. If that fails, only a prefix of it is.
abbrev pub Closes : Span SinkSeen → List ℕ → Status → List ℕ → Status → Type 0
Closes out line status put answer =
    ((put ≡ line) × (answer ≡ status)) ⊎ (IsFront put line × (answer ≡ statuses.WriteFault)
    × Rose out.before.faults out.after.faults)

-- What follows the steps of a command.
abbrev pub Finishes : Span SinkSeen → Command → Result (Unit {0}) ExitReason → List ℕ → Status
    → Type 0
Finishes out command (Ok done) put answer = (put ≡ []) × (answer ≡ statuses.Done)
Finishes out command (Err exit_reason) put answer = Closes out (fault_line command exit_reason)
    (status_of exit_reason) put answer

-- What was put on one sink, and that this holds for it.
pub record Closed (out : Span SinkSeen) (Holds : List ℕ → Type 0) : Type 0 where
  pub put : List ℕ
  pub lasts : Lasts out.before out.after
  pub took : Took out put
  pub holds : Holds put

-- A text was put on a sink. If that failed, only a prefix of it was.
abbrev pub PutsText : Span SinkSeen → List ℕ → Result (Unit {0}) ExitReason → List ℕ → Type 0
PutsText sink text (Ok done) put = put ≡ text
PutsText sink text (Err exits.WriteFault) put = IsFront put text
    × Rose sink.before.faults sink.after.faults
PutsText sink text (Err exit_reason) put = ⊥
