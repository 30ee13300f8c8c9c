-- The cause of a status still holds after more was put.
use Rattle.std.proofs.Common.{◌≡◌, ◌⊎◌, ℕ, ◌≤◌, inl, inr, Some, List}
use Rattle.jac_io.specs.Seen.{SinkSeen}
use Rattle.jac_io.specs.Linked.{DoorSeen}
use Rattle.jac_lang.specs.Syntax.{Application}
use Rattle.jac_cli.specs.declared.words.Command.{Command}
use Rattle.jac_cli.specs.declared.words.Command.TheVariants as commands
use Rattle.jac_cli.specs.declared.role.Role.TheVariants as roles
use Rattle.jac_command_base.specs.declared.status.Status.{Status}
use Rattle.jac_command_base.specs.declared.status.Status.TheVariants as statuses
use Rattle.jac_route.specs.declared.sessions.Session.{Session}
use Rattle.jac_serve_events.specs.declared.serve.EventFault.{EventFault}
use Rattle.jac_serve_events.specs.Script.{script_of}
use Rattle.jac_serve_events.specs.Outside.{Span}
use Rattle.jac_cli.specs.Commands.{file_of}
use Rattle.jac_command_base.specs.Files.{Sight, standing_at, HasApplication, HasBadLine, IsOpened}
use Rattle.jac_app.specs.Run.{IsSource, Sources, ComesFor}
use Rattle.jac_command_base.proofs.LaterLemmas.{read_later, application_later, next_later, opened_later, reached_later, write_later}

source_later : (seen : Sight) (later : SinkSeen) (command : Command) (bytes : List ℕ) → IsSource seen command bytes → IsSource (standing_at seen later) command bytes
source_later seen later (commands.Demo n) bytes h = h
source_later seen later (commands.Upgrade upgrading) bytes (inl h) = inl (read_later seen later (commands.Upgrade upgrading) roles.App bytes h)
source_later seen later (commands.Upgrade upgrading) bytes (inr h) = inr (read_later seen later (commands.Upgrade upgrading) roles.New bytes h)
source_later seen later (commands.Check app) bytes h = read_later seen later (commands.Check app) roles.App bytes h
source_later seen later (commands.Replay replay) bytes h = read_later seen later (commands.Replay replay) roles.App bytes h
source_later seen later (commands.Serve serving) bytes h = read_later seen later (commands.Serve serving) roles.App bytes h
source_later seen later (commands.Dump dumping) bytes h = read_later seen later (commands.Dump dumping) roles.App bytes h
source_later seen later (commands.Why explaining) bytes h = read_later seen later (commands.Why explaining) roles.App bytes h

sources_later : (seen : Sight) (later : SinkSeen) (command : Command) (app : Application) → Sources seen command app → Sources (standing_at seen later) command app
sources_later seen later (commands.Demo n) app h = h
sources_later seen later (commands.Upgrade upgrading) app h = application_later seen later (commands.Upgrade upgrading) app h
sources_later seen later (commands.Check name) app h = application_later seen later (commands.Check name) app h
sources_later seen later (commands.Replay replay) app h = application_later seen later (commands.Replay replay) app h
sources_later seen later (commands.Serve serving) app h = application_later seen later (commands.Serve serving) app h
sources_later seen later (commands.Dump dumping) app h = application_later seen later (commands.Dump dumping) app h
sources_later seen later (commands.Why explaining) app h = application_later seen later (commands.Why explaining) app h

line_later : (seen : Sight) (later : SinkSeen) (command : Command)
    → ((app : Application) × (sessions : List Session) × (events : List ℕ) × IsOpened seen command app sessions events × ((event_fault : EventFault) × ((script_of events).refused ≡ Some event_fault)))
    ⊎ (((app : Application) × HasApplication seen command app) × ((line : ℕ) × HasBadLine seen.files (file_of command roles.Sessions) line))
    → ((app : Application) × (sessions : List Session) × (events : List ℕ) × IsOpened (standing_at seen later) command app sessions events × ((event_fault : EventFault) × ((script_of events).refused ≡ Some event_fault)))
    ⊎ (((app : Application) × HasApplication (standing_at seen later) command app) × ((line : ℕ) × HasBadLine seen.files (file_of command roles.Sessions) line))
line_later seen later command (inl h) = inl (h.0, h.1, h.2, opened_later seen later command h.0 h.1 h.2 h.3, h.4)
line_later seen later command (inr h) = inr ((h.0.0, application_later seen later command h.0.0 h.0.1), h.1)

pub comes_later : {L : Type 0} (seen : Sight) (later : SinkSeen) → seen.out.after.faults ≤ later.faults → (door : Span (DoorSeen L)) (words : List (List ℕ)) (status : Status)
    → ComesFor seen door words status → ComesFor (standing_at seen later) door words status
comes_later seen later le door words statuses.Done h = h
comes_later seen later le door words statuses.Usage h = h
comes_later seen later le door words statuses.AppRefused h = (h.0, h.1, (h.2.0, source_later seen later h.0 h.2.0 h.2.1, h.2.2))
comes_later seen later le door words statuses.LineRefused h = (h.0, h.1, line_later seen later h.0 h.2)
comes_later seen later le door words statuses.ReadFault h = h
comes_later seen later le door words statuses.WriteFault h = write_later seen later le h
comes_later seen later le door words statuses.StoreFault h = h
comes_later seen later le door words statuses.DoorFault h = h
comes_later seen later le door words statuses.OtherStore h = (h.0, h.1, (h.2.0, sources_later seen later h.0 h.2.0 h.2.1, h.2.2))
comes_later seen later le door words statuses.UpgradeRefused h =
    let command = commands.Upgrade h.0 in
    (h.0, h.1, (h.2.0, application_later seen later command h.2.0 h.2.1, (h.2.2.0, next_later seen later command h.2.2.0 h.2.2.1, h.2.2.2)))
comes_later seen later le door words statuses.Memory h = h
comes_later seen later le door words statuses.TooLong h = (h.0, h.1, (h.2.0, reached_later seen later h.0 h.2.0 h.2.1, h.2.2))
