-- What a run has seen still holds after more was put.
use Rattle.std.proofs.Common.{ℕ, ◌≤◌, List, arith}
use Rattle.jac_io.specs.Seen.{SinkSeen}
use Rattle.jac_lang.specs.Syntax.{Application}
use Rattle.jac_route.specs.declared.sessions.Session.{Session}
use Rattle.jac_cli.specs.declared.words.Command.{Command}
use Rattle.jac_cli.specs.declared.role.Role.{Role}
use Rattle.jac_cli.specs.declared.role.Role.TheVariants as roles
use Rattle.jac_serve_events.specs.Outside.{AWriteFailed}
use Rattle.jac_command_base.specs.Files.{Sight, sinks_of, standing_at, IsRead, HasApplication, HasNext, IsOpened, IsReached}
use Rattle.jac_serve_events.proofs.OutsideLemmas.{failed_later}

pub read_later : (seen : Sight) (later : SinkSeen) (command : Command) (role : Role) (bytes : List ℕ)
    → IsRead seen command role bytes → IsRead (standing_at seen later) command role bytes
read_later seen later command role bytes h = record { short = h.short; told = h.told }

pub application_later : (seen : Sight) (later : SinkSeen) (command : Command) (app : Application) → HasApplication seen command app → HasApplication (standing_at seen later) command app
application_later seen later command app h = record { bytes = h.bytes; read = read_later seen later command roles.App h.bytes h.read; spelled = h.spelled }

pub next_later : (seen : Sight) (later : SinkSeen) (command : Command) (app : Application) → HasNext seen command app → HasNext (standing_at seen later) command app
next_later seen later command app h = record { bytes = h.bytes; read = read_later seen later command roles.New h.bytes h.read; spelled = h.spelled }

pub opened_later : (seen : Sight) (later : SinkSeen) (command : Command) (app : Application) (sessions : List Session) (events : List ℕ)
    → IsOpened seen command app sessions events → IsOpened (standing_at seen later) command app sessions events
opened_later seen later command app sessions events h = record {
  application = application_later seen later command app h.application;
  sessions_had = h.sessions_had;
  events_read = read_later seen later command roles.Events events h.events_read;
}

pub reached_later : (seen : Sight) (later : SinkSeen) (command : Command) (role : Role) → IsReached seen command role → IsReached (standing_at seen later) command role
reached_later seen later command roles.App h = tt
reached_later seen later command roles.New h = ((h.0.0, application_later seen later command h.0.0 h.0.1), h.1)
reached_later seen later command roles.Sessions h = ((h.0.0, application_later seen later command h.0.0 h.0.1), h.1)
reached_later seen later command roles.Events h = ((h.0.0, application_later seen later command h.0.0 h.0.1), h.1, h.2)

pub write_later : (seen : Sight) (later : SinkSeen) → seen.out.after.faults ≤ later.faults → AWriteFailed (sinks_of seen) → AWriteFailed (sinks_of (standing_at seen later))
write_later seen later le failed = failed_later (sinks_of (standing_at seen later)) (sinks_of seen) (omega arith) (omega arith) le (omega arith) failed
