-- What `replay` writes, and why it ends.
use Rattle.std.specs.Prelude.{◌≡◌, ◌⊎◌, ℕ, true, false, Result, Ok, Err, Some, None, List}
use Rattle.jac_io.specs.Faults.{Rose}
use Rattle.jac_lang.specs.Syntax.{Application}
use Rattle.jac_keep.specs.KeeperSeen.{KeeperSeen}
use Rattle.jac_route.specs.declared.sessions.Session.{Session}
use Rattle.jac_cli.specs.declared.words.Command.{Command}
use Rattle.jac_command_base.specs.declared.exit_reason.ExitReason.{ExitReason}
use Rattle.jac_command_base.specs.declared.exit_reason.ExitReason.TheVariants as exits
use Rattle.jac_app_load.specs.Application.{schema_text}
use Rattle.jac_dispatch.specs.Answered.{answer_spec_of}
use Rattle.jac_serve_events.specs.AnswerSpec.{AnswerSpec}
use Rattle.jac_serve_events.specs.RunSeen.{RunCounts, RunSeen, keepers, IsStill}
use Rattle.jac_serve_events.specs.Outside.{Span, Sinks, HasFaulted}
use Rattle.jac_viewer_caches.specs.declared.viewer_caches.ViewerEntry.{ViewerEntry}
use Rattle.jac_cli.specs.Commands.{audit_of, db_of, lazy_of}
use Rattle.jac_command_base.specs.Files.{Sight, sinks_of, IsOpened, IsAimed}
use Rattle.jac_serve_events.specs.Script.{Script, script_of}
use Rattle.jac_serve_events.specs.Serve.{PutsServed, PutsTorn}
use Rattle.jac_command_base.specs.Attached.{IsAttached, IsOther}
use Rattle.jac_command_base.specs.Early.{IsEndedEarly}
use Rattle.jac_app.specs.Held.{held_of, leaving, opened_on, IsUnstarted, IsLeftAlone}

-- How the events of a script are served on a store that was attached. If only a prefix of a line
-- was put, the sink of that line failed.
abbrev pub EndsServed : AnswerSpec → Span RunSeen → Script → Result (Unit {0}) ExitReason → Sinks
    → List ℕ → List ℕ → Type 0
EndsServed x k script (Ok done) s out audit =
    (script.refused ≡ None) × PutsServed false x k script out audit
EndsServed x k script (Err (exits.LineRefused event_fault)) s out audit =
    (script.refused ≡ Some event_fault) × PutsServed false x k script out audit
EndsServed x k script (Err exits.WriteFault) s out audit = PutsTorn x k script s out audit
EndsServed x k script (Err exits.Memory) s out audit = PutsServed true x k script out audit
EndsServed x k script (Err exit_reason) s out audit = ⊥

-- The same, with something cached for viewers at the end.
abbrev pub EndsServedLeaving : AnswerSpec → Span RunSeen → Script → Result (Unit {0}) ExitReason
    → Sinks → List ℕ → List ℕ → Type 0
EndsServedLeaving x k script result s out audit =
    (left : List ViewerEntry) × EndsServed x (leaving k left) script result s out audit

-- A store was attached, and the events were served from it. Attaching it split no facet and
-- evaluated no policy. `left` is what was cached for viewers at the end.
pub record IsServedOn (command : Command) (app : Application) (sessions : List Session)
    (k : Span RunSeen) (script : Script) (result : Result (Unit {0}) ExitReason) (s : Sinks)
    (out audit : List ℕ) : Type 0 where
  pub opened : KeeperSeen
  pub attached : IsAttached (db_of command) app (keepers k) opened
  pub left : List ViewerEntry
  pub ends : EndsServed (answer_spec_of (lazy_of command) app sessions)
      (opened_on opened k left) script result s out audit

-- How the steps from the attachment on end.
abbrev pub EndsAttaching : Command → Application → List Session → Span RunSeen → Script
    → Result (Unit {0}) ExitReason → Sinks → List ℕ → List ℕ → Type 0
EndsAttaching command app sessions k script (Err exits.StoreFault) s out audit =
    Rose k.before.keeper.faults k.after.keeper.faults × IsUnstarted k out audit
EndsAttaching command app sessions k script (Err (exits.OtherStore stored wanted)) s out audit =
    (wanted ≡ schema_text app) × IsOther (keepers k) stored wanted × IsUnstarted k out audit
EndsAttaching command app sessions k script (Err exits.Memory) s out audit =
    IsUnstarted k out audit
    ⊎ IsServedOn command app sessions k script (Err exits.Memory) s out audit
EndsAttaching command app sessions k script result s out audit =
    IsServedOn command app sessions k script result s out audit

-- How the steps from the aim of the audit on end. A write failure is that of the aim, or of a put
-- after it.
abbrev pub EndsServing : Sinks → Command → Application → List Session → Span RunSeen → Script
    → Result (Unit {0}) ExitReason → List ℕ → List ℕ → Type 0
EndsServing s command app sessions k script (Err exits.WriteFault) out audit =
    (HasFaulted s.audit × IsLeftAlone s.audit k out audit)
    ⊎ (IsAimed (audit_of command) s.audit
    × EndsAttaching command app sessions k script (Err exits.WriteFault) s out audit)
EndsServing s command app sessions k script result out audit =
    IsAimed (audit_of command) s.audit
    × EndsAttaching command app sessions k script result s out audit

-- The files were read, and then the events were served.
pub record IsServing (seen : Sight) (counts : Span RunCounts) (command : Command)
    (result : Result (Unit {0}) ExitReason) (out audit : List ℕ) : Type 0 where
  pub app : Application
  pub sessions : List Session
  pub events : List ℕ
  pub opened : IsOpened seen command app sessions events
  pub ends : EndsServing (sinks_of seen) command app sessions (held_of seen counts)
      (script_of events)
      result out audit

-- What the steps of a replay put, and why they ended.
abbrev pub EndsReplay : Sight → Span RunCounts → Command → Result (Unit {0}) ExitReason
    → List ℕ → List ℕ → Type 0
EndsReplay seen counts command result out audit =
    (IsEndedEarly seen command result out audit × IsStill counts)
    ⊎ IsServing seen counts command result out audit
