-- How a command that answers over a store begins: its files, its audit and its store.
use Rattle.std.specs.Prelude.{◌≡◌, ◌⊎◌, ℕ, Result, Ok, Err, Option, Some, None, List, []}
use Rattle.jac_io.specs.Seen.{FilesSeen, SinkSeen, Aims}
use Rattle.jac_io.specs.declared.sink.Failed.{Failed}
use Rattle.jac_lang.specs.Mirror.{application_of}
use Rattle.jac_lang.specs.Syntax.{Application}
use Rattle.jac_keep.specs.KeeperSeen.{KeeperSeen}
use Rattle.jac_route.specs.declared.sessions.Session.{Session}
use Rattle.jac_serve_events.specs.RunSeen.{IsStill}
use Rattle.jac_serve_events.specs.Outside.{Span}
use Rattle.jac_cli.specs.declared.role.Role.TheVariants as roles
use Rattle.jac_cli.specs.declared.words.Command.{Command}
use Rattle.jac_cli.specs.declared.words.Command.TheVariants as commands
use Rattle.jac_cli.specs.Commands.{db_of, file_of, name_of}
use Rattle.jac_command_base.specs.declared.exit_reason.ExitReason.{ExitReason}
use Rattle.jac_command_base.specs.declared.exit_reason.ExitReason.TheVariants as exits
use Rattle.jac_command_base.specs.declared.startup.Opened.{Opened}
use Rattle.jac_command_base.specs.declared.startup.StoreCommand.{StoreCommand}
use Rattle.jac_command_base.specs.declared.startup.StoreCommand.TheVariants as openings
use Rattle.jac_command_base.specs.Attached.{AttachesAs}
use Rattle.jac_command_base.specs.Early.{EndsOpening}
use Rattle.jac_command_base.specs.Files.{Sight, HasSessions, IsReadAs, IsSpelledIn, IsUnread}

-- The command that begins.
abbrev pub command_in : StoreCommand → Command
command_in (openings.Replay replay) = commands.Replay replay.now
command_in (openings.Serve serving) = commands.Serve serving.now
command_in (openings.Dump dumping) = commands.Dump dumping.now
command_in (openings.Why explaining) = commands.Why explaining.now

abbrev pub sight_of : Span FilesSeen → Span SinkSeen → Span SinkSeen → Span KeeperSeen → Sight
sight_of files out audit keeper = record {
  files = files;
  out = out;
  audit = audit;
  keeper = keeper;
}

-- ---- the files

-- The events file with this name was read. Without a name, there are no events.
abbrev pub HasEvents : Span FilesSeen → Option (List ℕ) → List ℕ → Type 0
HasEvents files None events = events ≡ []
HasEvents files (Some name) events = IsReadAs files name roles.Events events

-- Why a file with this name, if there is a name, gives no events.
abbrev pub IsEventless : Span FilesSeen → Option (List ℕ) → ExitReason → Type 0
IsEventless files None exit_reason = ⊥
IsEventless files (Some name) exit_reason = IsUnread files name roles.Events exit_reason

-- The files that a command names were read: those of its application, its sessions and its events.
pub record AreFilesRead (command : Command) (files : Span FilesSeen) (app : Application)
    (sessions : List Session) (events : List ℕ) : Type 0 where
  pub application : IsSpelledIn files (name_of command roles.App) app
  pub sessions_had : HasSessions files (file_of command roles.Sessions) sessions
  pub events_had : HasEvents files (file_of command roles.Events) events

-- Why the files weren't read, or gave nothing, whatever else is seen.
abbrev pub EndsReading : Command → Span FilesSeen → ExitReason → Type 0
EndsReading command files exit_reason =
    (out audit : Span SinkSeen) (keeper : Span KeeperSeen)
    → EndsOpening (sight_of files out audit keeper) command exit_reason

-- ---- the audit and the store

-- How aiming the audit at the file with this name, or at none, ends.
abbrev pub EndsAim : Option (List ℕ) → Span SinkSeen → Result (Unit {0}) ExitReason → Type 0
EndsAim name audit (Ok done) = Aims audit.before audit.after name (Ok tt)
EndsAim name audit (Err exit_reason) =
    ((failed : Failed) × (exit_reason ≡ exits.WriteFault)
    × Aims audit.before audit.after name (Err failed))
    ⊎ ((exit_reason ≡ exits.Memory) × IsStill audit)

-- A command that serves aims its audit. Another one leaves the audit alone.
abbrev pub EndsAiming : Command → Span SinkSeen → Result (Unit {0}) ExitReason → Type 0
EndsAiming (commands.Replay replay) audit result = EndsAim replay.audit audit result
EndsAiming (commands.Serve serving) audit result = EndsAim serving.audit audit result
EndsAiming command audit (Ok done) = IsStill audit
EndsAiming command audit (Err exit_reason) = ⊥

-- The audit couldn't be aimed, and the store wasn't called.
pub record IsStoppedAiming (command : Command) (audit : Span SinkSeen) (keeper : Span KeeperSeen)
    (exit_reason : ExitReason) : Type 0 where
  pub aims : EndsAiming command audit (Err exit_reason)
  pub still : IsStill keeper

-- The audit was aimed, and the store wasn't attached.
pub record IsBarred (command : Command) (app : Application) (audit : Span SinkSeen)
    (keeper : Span KeeperSeen) (exit_reason : ExitReason) : Type 0 where
  pub aims : EndsAiming command audit (Ok tt)
  pub attaches : AttachesAs (db_of command) app keeper (Err exit_reason)

-- The audit was aimed, and the store attached.
pub record IsBegunOn (command : Command) (app : Application) (audit : Span SinkSeen)
    (keeper : Span KeeperSeen) : Type 0 where
  pub aims : EndsAiming command audit (Ok tt)
  pub attaches : AttachesAs (db_of command) app keeper (Ok tt)

abbrev pub BeginsAs : Command → Application → Span SinkSeen → Span KeeperSeen
    → Result (Unit {0}) ExitReason → Type 0
BeginsAs command app audit keeper (Ok done) = IsBegunOn command app audit keeper
BeginsAs command app audit keeper (Err exit_reason) =
    IsStoppedAiming command audit keeper exit_reason ⊎ IsBarred command app audit keeper exit_reason

-- ---- both

-- The command ended before the audit was aimed: a file wasn't read or gave nothing, or memory ran
-- out.
pub record IsHaltedEarly (command : Command) (files : Span FilesSeen) (audit : Span SinkSeen)
    (keeper : Span KeeperSeen) (exit_reason : ExitReason) : Type 0 where
  pub ends : EndsReading command files exit_reason
  pub uncalled : IsStill audit
  pub still : IsStill keeper

-- The files were read, and then the aim of the audit or the store failed.
pub record IsHaltedBehind (command : Command) (files : Span FilesSeen) (audit : Span SinkSeen)
    (keeper : Span KeeperSeen) (exit_reason : ExitReason) : Type 0 where
  pub app : Application
  pub sessions : List Session
  pub events : List ℕ
  pub read : AreFilesRead command files app sessions events
  pub halts : IsStoppedAiming command audit keeper exit_reason
      ⊎ IsBarred command app audit keeper exit_reason

abbrev pub IsHalted : Command → Span FilesSeen → Span SinkSeen → Span KeeperSeen → ExitReason → Type
    0
IsHalted command files audit keeper exit_reason =
    IsHaltedEarly command files audit keeper exit_reason
    ⊎ IsHaltedBehind command files audit keeper exit_reason

-- The files were read, the audit was aimed, and the store was attached.
pub record HasBegun (command : Command) (files : Span FilesSeen) (audit : Span SinkSeen)
    (keeper : Span KeeperSeen) (app : Application) (sessions : List Session) (events : List ℕ)
    : Type 0 where
  pub read : AreFilesRead command files app sessions events
  pub aims : EndsAiming command audit (Ok tt)
  pub attaches : AttachesAs (db_of command) app keeper (Ok tt)

-- How a command begins: with an application and its store, or with a reason to end.
abbrev pub OpensAs : Command → Span FilesSeen → Span SinkSeen → Span KeeperSeen
    → Result Opened ExitReason → Type 0
OpensAs command files audit keeper (Ok opened) =
    HasBegun command files audit keeper (application_of opened.service) opened.sessions
    opened.events
OpensAs command files audit keeper (Err exit_reason) = IsHalted command files audit keeper
    exit_reason
