-- The contract of `run`: its command, the bytes that it writes, and its exit status.
use Rattle.std.specs.Prelude.{◌≡◌, ◌≤◌, ◌⊎◌, ⊤, ℕ, Bool, true, false, is_none, IsTrue, Result, Ok, Option, Some, None, List, [], ◌++◌, length, codes}
use Rattle.jac_io.specs.Faults.{Rose}
use Rattle.jac_io.specs.Seen.{FilesSeen, SinkSeen}
use Rattle.jac_io.specs.Linked.{LinkSeen, DoorSeen, DoorLasts}
use Rattle.jac_lang.specs.Syntax.{Application}
use Rattle.jac_route.specs.declared.sessions.Session.{Session}
use Rattle.jac_route.specs.Sessions.{sessions_in}
use Rattle.jac_cli.specs.declared.words.Command.{Command}
use Rattle.jac_cli.specs.declared.words.Command.TheVariants as commands
use Rattle.jac_command_base.specs.declared.exit_reason.ExitReason.{ExitReason}
use Rattle.jac_cli.specs.declared.role.Role.{Role}
use Rattle.jac_cli.specs.declared.role.Role.TheVariants as roles
use Rattle.jac_serve_events.specs.declared.serve.EventFault.{EventFault}
use Rattle.jac_command_base.specs.declared.status.Status.{Status}
use Rattle.jac_command_base.specs.declared.status.Status.TheVariants as statuses
use Rattle.jac_app_load.specs.Application.{IsApplication, schema_text}
use Rattle.jac_serve_events.specs.RunSeen.{RunCounts, IsStill}
use Rattle.jac_serve_events.specs.Outside.{Span, span, AWriteFailed, WentAimed}
use Rattle.jac_cli.specs.Words.{command_of}
use Rattle.jac_cli.specs.Commands.{file_of, name_of}
use Rattle.jac_command_base.specs.Files.{Sight, sinks_of, standing_at, AsksForFiles, files_named, IsRead, IsLong, HasApplication, HasNext, HasBadLine, IsOpened, IsReached, IsIdle}
use Rattle.jac_serve_events.specs.Script.{script_of}
use Rattle.jac_cli.specs.declared.words.DumpArgs.{DumpArgs}
use Rattle.jac_cli.specs.declared.words.Replay.{Replay}
use Rattle.jac_cli.specs.declared.words.ServeArgs.{ServeArgs}
use Rattle.jac_cli.specs.declared.words.UpgradeArgs.{UpgradeArgs}
use Rattle.jac_cli.specs.declared.words.WhyArgs.{WhyArgs}
use Rattle.jac_upgrade.specs.Extends.{models_lack}
use Rattle.jac_upgrade.specs.declared.fault.UpgradeFault.{UpgradeFault}
use Rattle.jac_admin.specs.Upgrade.{EndsUpgrade}
use Rattle.jac_admin.specs.Explain.{EndsExplain}
use Rattle.jac_command_base.specs.ExitReason.{Closes, Finishes}
use Rattle.jac_app.specs.Check.{EndsCheck}
use Rattle.jac_app.specs.Demo.{EndsDemo}
use Rattle.jac_admin.specs.Dump.{EndsDump}
use Rattle.jac_demo.specs.Calendar.{calendar_text}
use Rattle.jac_command_base.specs.Attached.{IsOther}
use Rattle.jac_app.specs.Held.{held_of}
use Rattle.jac_app.specs.Replay.{EndsReplay}
use Rattle.jac_app.specs.Server.{EndsServer}

abbrev pub usage_line : List ℕ
usage_line = codes
    "usage: jac check APP, replay APP EVENTS, serve APP PORT COUNT, demo N, dump APP LABELS, upgrade OLD NEW, why APP VIEWER; options --db FILE --sessions FILE --audit FILE --lazy\n"

-- The door wasn't called.
abbrev pub IsUncalled : {L : Type 0} → Span (DoorSeen L) → Type 0
IsUncalled door = door.after ≡ door.before

-- What the steps of a command put, and why they ended. Only those of `serve` call the door. A
-- check, a dump and a `why` split no facet, and the first two evaluate no policy.
abbrev pub Ends : {L : Type 0} → (L → LinkSeen) → Sight → Span (DoorSeen L) → Span RunCounts
    → Command → Result (Unit {0}) ExitReason → List ℕ → List ℕ → Type 0
Ends line seen door counts (commands.Check app) result out audit =
    EndsCheck seen (commands.Check app) result out audit × IsUncalled door × IsStill counts
Ends line seen door counts (commands.Replay replay) result out audit =
    EndsReplay seen counts (commands.Replay replay) result out audit × IsUncalled door
Ends line seen door counts (commands.Serve serving) result out audit =
    EndsServer line seen door counts serving result out audit
Ends line seen door counts (commands.Demo n) result out audit =
    EndsDemo (sinks_of seen) (held_of seen counts) n result out audit × IsUncalled door
Ends line seen door counts (commands.Dump dumping) result out audit =
    EndsDump seen (commands.Dump dumping) result out audit × IsUncalled door × IsStill counts
Ends line seen door counts (commands.Upgrade upgrading) result out audit =
    EndsUpgrade seen (commands.Upgrade upgrading) result out audit × IsUncalled door
Ends line seen door counts (commands.Why explaining) result out audit =
    EndsExplain seen (commands.Why explaining) result out audit × IsUncalled door
    × (counts.after.splits ≡ counts.before.splits)

-- The words are a command. Its steps were run up to the state `standing` of `out`, and then the
-- line of its status was put. If that put fails, this isn't the cause for which the steps ended.
pub record RunsCommand {L : Type 0} (line : L → LinkSeen) (seen : Sight) (door : Span (DoorSeen L))
    (counts : Span RunCounts) (words : List (List ℕ)) (status : Status) (out audit : List ℕ)
    : Type 0 where
  pub command : Command
  pub ended : Result (Unit {0}) ExitReason
  pub standing : SinkSeen
  pub served : List ℕ
  pub last : List ℕ
  pub is_command : command_of words ≡ Some command
  pub ends : Ends line (standing_at seen standing) door counts command ended served audit
  pub finishes : Finishes (span standing seen.out.after) command ended last status
  pub earlier : seen.out.before.faults ≤ standing.faults
  pub later : standing.faults ≤ seen.out.after.faults
  pub out_text : out ≡ served ++ last

-- The words are no command.
pub record RunsNothing {L : Type 0} (seen : Sight) (door : Span (DoorSeen L))
    (counts : Span RunCounts) (words : List (List ℕ)) (status : Status) (out audit : List ℕ)
    : Type 0 where
  pub no_command : command_of words ≡ None
  pub closes : Closes seen.out usage_line statuses.Usage out status
  pub idle : IsIdle seen.audit seen.keeper [] audit
  pub uncalled : IsUncalled door
  pub unsplit : IsStill counts

-- Memory ran out while the words were read.
pub record RunsOut {L : Type 0} (seen : Sight) (door : Span (DoorSeen L)) (counts : Span RunCounts)
    (status : Status) (out audit : List ℕ) : Type 0 where
  pub closes : Closes seen.out (codes "memory\n") statuses.Memory out status
  pub idle : IsIdle seen.audit seen.keeper [] audit
  pub uncalled : IsUncalled door
  pub unsplit : IsStill counts

abbrev pub Runs : {L : Type 0} → (L → LinkSeen) → Sight → Span (DoorSeen L) → Span RunCounts
    → List (List ℕ) → Status → List ℕ → List ℕ → Type 0
Runs line seen door counts words status out audit =
    RunsCommand line seen door counts words status out audit
    ⊎ (RunsNothing seen door counts words status out audit
    ⊎ RunsOut seen door counts status out audit)

-- If a sessions file is named, it is there, isn't too long, and each of its lines has a form.
abbrev pub CanHaveSessions : FilesSeen → Option (List ℕ) → Type 0
CanHaveSessions files None = ⊤
CanHaveSessions files (Some name) =
    (bytes : List ℕ) × (sessions : List Session) × (files.file name ≡ Some bytes)
    × (length bytes ≤ 1048576) × (sessions_in bytes ≡ Ok sessions)

-- The application's file is there, and spells an application.
pub record CanOpen (seen : Sight) (command : Command) (app : Application) : Type 0 where
  pub bytes : List ℕ
  pub told : IsTrue seen.files.after.tells
  pub file : seen.files.before.file (name_of command roles.App) ≡ Some bytes
  pub application : IsApplication bytes app
  pub no_read_fault : Rose seen.files.before.faults seen.files.after.faults → ⊥
  pub no_write_fault : AWriteFailed (sinks_of seen) → ⊥

-- Everything that a replay needs is there, and no read or put fails.
pub record CanReplay (seen : Sight) (words : List (List ℕ)) : Type 0 where
  pub replay : Replay
  pub app : Application
  pub events : List ℕ
  pub is_command : command_of words ≡ Some (commands.Replay replay)
  pub opens : CanOpen seen (commands.Replay replay) app
  pub sessions_file : CanHaveSessions seen.files.before replay.sessions
  pub events_file : seen.files.before.file replay.events ≡ Some events
  pub short : length events ≤ 16777216
  pub forms : (script_of events).refused ≡ None

-- The same for serving a door, and no call of the door fails.
pub record CanServe {L : Type 0} (seen : Sight) (door : Span (DoorSeen L)) (words : List (List ℕ)) :
    Type 0 where
  pub serving : ServeArgs
  pub app : Application
  pub is_command : command_of words ≡ Some (commands.Serve serving)
  pub opens : CanOpen seen (commands.Serve serving) app
  pub sessions_file : CanHaveSessions seen.files.before serving.sessions
  pub no_door_fault : Rose door.before.faults door.after.faults → ⊥

-- The same for a check.
pub record CanCheck (seen : Sight) (words : List (List ℕ)) : Type 0 where
  pub name : List ℕ
  pub app : Application
  pub is_command : command_of words ≡ Some (commands.Check name)
  pub opens : CanOpen seen (commands.Check name) app

-- The same for a dump.
pub record CanDump (seen : Sight) (words : List (List ℕ)) : Type 0 where
  pub dumping : DumpArgs
  pub app : Application
  pub is_command : command_of words ≡ Some (commands.Dump dumping)
  pub opens : CanOpen seen (commands.Dump dumping) app

-- The same for a `why`.
pub record CanExplain (seen : Sight) (words : List (List ℕ)) : Type 0 where
  pub explaining : WhyArgs
  pub app : Application
  pub is_command : command_of words ≡ Some (commands.Why explaining)
  pub opens : CanOpen seen (commands.Why explaining) app

-- The same for an upgrade. The second application's file is there, and spells an application.
pub record CanUpgrade (seen : Sight) (words : List (List ℕ)) : Type 0 where
  pub upgrading : UpgradeArgs
  pub old : Application
  pub new : Application
  pub next_bytes : List ℕ
  pub is_command : command_of words ≡ Some (commands.Upgrade upgrading)
  pub opens : CanOpen seen (commands.Upgrade upgrading) old
  pub next_file : seen.files.before.file upgrading.next ≡ Some next_bytes
  pub next_application : IsApplication next_bytes new

-- Whether the application that the second file spells extends that of the first.
abbrev pub Extends : (seen : Sight) (words : List (List ℕ)) → CanUpgrade seen words → Bool → Type 0
Extends seen words can extends =
    (old new : Application) → IsApplication can.opens.bytes old → IsApplication can.next_bytes new
    → is_none (models_lack 0 old.models new.models) ≡ extends

-- No put of a demo fails.
pub record CanDemo (seen : Sight) (words : List (List ℕ)) : Type 0 where
  pub count : ℕ
  pub is_command : command_of words ≡ Some (commands.Demo count)
  pub no_write_fault : AWriteFailed (sinks_of seen) → ⊥

-- The bytes from which a command reads an application: its file, either file of an upgrade, or the
-- calendar.
abbrev pub IsSource : Sight → Command → List ℕ → Type 0
IsSource seen (commands.Demo n) bytes = bytes ≡ calendar_text
IsSource seen (commands.Upgrade upgrading) bytes =
    IsRead seen (commands.Upgrade upgrading) roles.App bytes
    ⊎ IsRead seen (commands.Upgrade upgrading) roles.New bytes
IsSource seen command bytes = IsRead seen command roles.App bytes

-- The application that is read from them, the first of an upgrade.
abbrev pub Sources : Sight → Command → Application → Type 0
Sources seen (commands.Demo n) app = IsApplication calendar_text app
Sources seen command app = HasApplication seen command app

-- The cause of each status.
abbrev pub ComesFor : {L : Type 0} → Sight → Span (DoorSeen L) → List (List ℕ) → Status → Type 0
ComesFor seen door words statuses.Done = (command : Command) × (command_of words ≡ Some command)
ComesFor seen door words statuses.Usage = command_of words ≡ None
ComesFor seen door words statuses.AppRefused =
    (command : Command) × (command_of words ≡ Some command)
    × ((bytes : List ℕ) × IsSource seen command bytes
    × ((app : Application) → IsApplication bytes app → ⊥))
ComesFor seen door words statuses.LineRefused =
    (command : Command) × (command_of words ≡ Some command)
    × (((app : Application) × (sessions : List Session) × (events : List ℕ)
    × IsOpened seen command app sessions events
    × ((event_fault : EventFault) × ((script_of events).refused ≡ Some event_fault)))
    ⊎ (((app : Application) × HasApplication seen command app)
    × ((line : ℕ) × HasBadLine seen.files (file_of command roles.Sessions) line)))
ComesFor seen door words statuses.ReadFault = Rose seen.files.before.faults seen.files.after.faults
ComesFor seen door words statuses.WriteFault = AWriteFailed (sinks_of seen)
ComesFor seen door words statuses.StoreFault = Rose seen.keeper.before.faults
    seen.keeper.after.faults
ComesFor seen door words statuses.DoorFault = Rose door.before.faults door.after.faults
ComesFor seen door words statuses.OtherStore =
    (command : Command) × (command_of words ≡ Some command)
    × ((app : Application) × Sources seen command app
    × ((stored : List ℕ) × IsOther seen.keeper stored (schema_text app)))
ComesFor seen door words statuses.UpgradeRefused =
    (upgrading : UpgradeArgs) × (command_of words ≡ Some (commands.Upgrade upgrading))
    × ((old : Application) × HasApplication seen (commands.Upgrade upgrading) old
    × ((new : Application) × HasNext seen (commands.Upgrade upgrading) new
    × ((fault : UpgradeFault) × (models_lack 0 old.models new.models ≡ Some fault))))
ComesFor seen door words statuses.Memory = ⊤
ComesFor seen door words statuses.TooLong =
    (command : Command) × (command_of words ≡ Some command)
    × ((role : Role) × IsReached seen command role × IsLong seen command role)

-- The contents of the keeper are known, and no call of it fails. The stored schema is that of the
-- application that the command reads, or the store is new.
pub record CanAttach (seen : Sight) (words : List (List ℕ)) : Type 0 where
  pub told : IsTrue seen.keeper.after.tells
  pub no_fault : Rose seen.keeper.before.faults seen.keeper.after.faults → ⊥
  pub schema : (command : Command) → command_of words ≡ Some command
      → (app : Application) → Sources seen command app
      → (seen.keeper.before.store.schema ≡ None)
      ⊎ (seen.keeper.before.store.schema ≡ Some (schema_text app))

-- All was served, or memory ran out, or the store failed or has another schema.
abbrev pub IsCompleted : Status → Type 0
IsCompleted status = (status ≡ statuses.Done) ⊎ (status ≡ statuses.Memory)
    ⊎ (status ≡ statuses.StoreFault) ⊎ (status ≡ statuses.OtherStore)

-- A run. What was put on both sinks is what the command's steps put, by the status. What the keeper
-- stores at the end shows, under every assignment, the world that the ordinary interpreter leaves.
-- If the contents of the door are known at the end, they were known before, and its count of faults
-- didn't fall. The run asked for the files that its command names, in order, and for no other. The
-- status has its cause. If nothing is missing and nothing fails, all is done, unless memory runs
-- out. `counts` are the facets that were split and the policies that were evaluated, before and
-- after.
pub record IsRun {L : Type 0} (line : L → LinkSeen) (seen : Sight) (door : Span (DoorSeen L))
    (counts : Span RunCounts) (words : List (List ℕ)) (status : Status) : Type 0 where
  pub ran : WentAimed (sinks_of seen) (Runs line seen door counts words status)
  pub lasts : DoorLasts door.before door.after
  pub asks : AsksForFiles seen.files (files_named (command_of words)) (status ≡ statuses.Done)
  pub cause : ComesFor seen door words status
  pub replays : CanReplay seen words → IsCompleted status
  pub serves : CanServe seen door words → IsCompleted status
  pub dumps : CanDump seen words → IsCompleted status
  pub explains : CanExplain seen words → IsCompleted status
  pub upgrades : (can : CanUpgrade seen words) → Extends seen words can true → IsCompleted status
  pub refuses : (can : CanUpgrade seen words) → Extends seen words can false
      → (status ≡ statuses.UpgradeRefused) ⊎ (status ≡ statuses.Memory)
  pub demos : CanDemo seen words → IsCompleted status
  pub checks : CanCheck seen words → (status ≡ statuses.Done) ⊎ (status ≡ statuses.Memory)
  -- If the store can be attached, it isn't the store that ends the run.
  pub attaches : CanAttach seen words
      → ¬ (status ≡ statuses.StoreFault) × ¬ (status ≡ statuses.OtherStore)
