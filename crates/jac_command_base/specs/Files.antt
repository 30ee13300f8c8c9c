-- What a run sees of the machine, and which files it reads.
use Rattle.std.specs.Prelude.{◌≡◌, ◌≤◌, ◌<◌, ◌⊎◌, ⊤, ℕ, is_some, IsTrue, IsSomeAnd, Ok, Err, Option, Some, None, option_to_list, List, [], ◌∷◌, ◌++◌, length}
use Rattle.jac_io.specs.Faults.{Rose}
use Rattle.jac_io.specs.Seen.{FilesSeen, SinkSeen}
use Rattle.jac_lang.specs.Syntax.{Application}
use Rattle.jac_keep.specs.KeeperSeen.{KeeperSeen}
use Rattle.jac_route.specs.declared.sessions.Session.{Session}
use Rattle.jac_route.specs.Sessions.{sessions_in}
use Rattle.jac_cli.specs.declared.words.Command.{Command}
use Rattle.jac_command_base.specs.declared.exit_reason.ExitReason.{ExitReason}
use Rattle.jac_command_base.specs.declared.exit_reason.ExitReason.TheVariants as exits
use Rattle.jac_cli.specs.declared.role.Role.{Role}
use Rattle.jac_cli.specs.declared.role.Role.TheVariants as roles
use Rattle.jac_app_load.specs.Application.{IsApplication}
use Rattle.jac_app_load.specs.Refusal.{IsRefusedBy}
use Rattle.jac_serve_events.specs.RunSeen.{IsStill}
use Rattle.jac_serve_events.specs.Outside.{Span, span, Sinks}
use Rattle.jac_cli.specs.Commands.{file_of, name_of, limit_of}

-- What a run sees of its environment, before and after.
pub record Sight : Type 0 where
  pub files : Span FilesSeen
  pub out : Span SinkSeen
  pub audit : Span SinkSeen
  pub keeper : Span KeeperSeen

abbrev pub sight : FilesSeen → FilesSeen → SinkSeen → SinkSeen → SinkSeen → SinkSeen → KeeperSeen
    → KeeperSeen → Sight
sight files_before files_after out_before out_after audit_before audit_after keeper_before
    keeper_after = record {
      files = span files_before files_after;
      out = span out_before out_after;
      audit = span audit_before audit_after;
      keeper = span keeper_before keeper_after;
    }

-- The same, up to the moment when `out` had this state.
abbrev pub standing_at : Sight → SinkSeen → Sight
standing_at seen standing = record seen { out = span seen.out.before standing }

abbrev pub sinks_of : Sight → Sinks
sinks_of seen = record { out = seen.out; audit = seen.audit }

-- The files that a command names, in the order in which it reads them.
abbrev pub files_of : Command → List (List ℕ)
files_of command =
    option_to_list (file_of command roles.App) ++ option_to_list (file_of command roles.New)
    ++ option_to_list (file_of command roles.Sessions) ++ option_to_list
    (file_of command roles.Events)

-- The files that words name: none if the words are no command.
abbrev pub files_named : Option Command → List (List ℕ)
files_named None = []
files_named (Some command) = files_of command

-- The first of these files were asked for, in order, each as often as it is named, and no other
-- file was. If all is done, all of them were.
pub record AsksForFiles (files : Span FilesSeen) (names : List (List ℕ)) (done : Type 0) : Type 0
  where
    pub front : List (List ℕ)
    pub rest : List (List ℕ)
    pub parts : names ≡ front ++ rest
    pub asked : files.after.asked ≡ files.before.asked ++ front
    pub all : done → rest ≡ []

-- The file with this name and role was read whole.
pub record IsReadAs (files : Span FilesSeen) (name : List ℕ) (role : Role) (bytes : List ℕ) : Type 0
  where
    pub short : length bytes ≤ limit_of role
    pub told : IsTrue files.after.tells → files.before.file name ≡ Some bytes

abbrev pub IsRead : Sight → Command → Role → List ℕ → Type 0
IsRead seen command role = IsReadAs seen.files (name_of command role) role

-- The file has more bytes than its limit.
abbrev pub IsLong : Sight → Command → Role → Type 0
IsLong seen command role = IsTrue seen.files.after.tells
    → IsSomeAnd (seen.files.before.file (name_of command role)) (λ bytes. limit_of role
    < length bytes)

-- The application's file was read, and spells this application.
pub record HasApplication (seen : Sight) (command : Command) (app : Application) : Type 0 where
  pub bytes : List ℕ
  pub read : IsRead seen command roles.App bytes
  pub spelled : IsApplication bytes app

-- The file with this name was read, and spells this application.
pub record IsSpelledIn (files : Span FilesSeen) (name : List ℕ) (app : Application) : Type 0 where
  pub bytes : List ℕ
  pub read : IsReadAs files name roles.App bytes
  pub spelled : IsApplication bytes app

-- The file of the application to upgrade to was read, and spells this application.
pub record HasNext (seen : Sight) (command : Command) (app : Application) : Type 0 where
  pub bytes : List ℕ
  pub read : IsRead seen command roles.New bytes
  pub spelled : IsApplication bytes app

-- The sessions of the file with this name, which was read. Without a name, there are none.
abbrev pub HasSessions : Span FilesSeen → Option (List ℕ) → List Session → Type 0
HasSessions files None sessions = sessions ≡ []
HasSessions files (Some name) sessions = (bytes : List ℕ) × IsReadAs files name roles.Sessions bytes
    × (sessions_in bytes ≡ Ok sessions)

-- The file with this name was read, and the n-th line is the first that is refused.
abbrev pub HasBadLine : Span FilesSeen → Option (List ℕ) → ℕ → Type 0
HasBadLine files None n = ⊥
HasBadLine files (Some name) n = (bytes : List ℕ) × IsReadAs files name roles.Sessions bytes
    × (sessions_in bytes ≡ Err n)

-- The application, the sessions and the events were read.
pub record IsOpened (seen : Sight) (command : Command) (app : Application) (sessions : List Session)
    (events : List ℕ) : Type 0 where
  pub application : HasApplication seen command app
  pub sessions_had : HasSessions seen.files (file_of command roles.Sessions) sessions
  pub events_read : IsRead seen command roles.Events events

-- The steps before the file with this role is read are done.
abbrev pub IsReached : Sight → Command → Role → Type 0
IsReached seen command roles.App = ⊤
IsReached seen command roles.New = ((app : Application) × HasApplication seen command app)
    × IsTrue (is_some (file_of command roles.New))
IsReached seen command roles.Sessions = ((app : Application) × HasApplication seen command app)
    × IsTrue (is_some (file_of command roles.Sessions))
IsReached seen command roles.Events =
    ((app : Application) × HasApplication seen command app) × ((sessions : List Session)
    × HasSessions seen.files (file_of command roles.Sessions) sessions)
    × IsTrue (is_some (file_of command roles.Events))

-- The audit was aimed once, at this file or at none, before anything was put on it.
abbrev pub IsAimed : Option (List ℕ) → Span SinkSeen → Type 0
IsAimed name audit = IsTrue audit.after.tells → audit.after.aims ≡ audit.before.aims
    ++ (name, length audit.before.held) ∷ []

-- Nothing was put, the audit was not aimed, and the keeper was not called.
pub record IsIdle (audit : Span SinkSeen) (keeper : Span KeeperSeen) (out_bytes audit_bytes : List
    ℕ) : Type 0 where
  pub no_out : out_bytes ≡ []
  pub no_audit : audit_bytes ≡ []
  pub unaimed : IsTrue audit.after.tells → audit.after.aims ≡ audit.before.aims
  pub still : IsStill keeper

-- Why the file with this role and name wasn't read.
abbrev pub IsUnread : Span FilesSeen → List ℕ → Role → ExitReason → Type 0
IsUnread files name role (exits.ReadFault r) = (r ≡ role)
    × Rose files.before.faults files.after.faults
IsUnread files name role (exits.TooLong r) =
    (r ≡ role) × (IsTrue files.after.tells → IsSomeAnd (files.before.file name)
    (λ bytes. limit_of role < length bytes))
IsUnread files name role exits.Memory = ⊤
IsUnread files name role (exits.AppRefused line) = ⊥
IsUnread files name role (exits.NewRefused line) = ⊥
IsUnread files name role (exits.UpgradeRefused line) = ⊥
IsUnread files name role (exits.LineRefused event_fault) = ⊥
IsUnread files name role (exits.SessionsRefused line) = ⊥
IsUnread files name role exits.WriteFault = ⊥
IsUnread files name role exits.StoreFault = ⊥
IsUnread files name role exits.DoorFault = ⊥
IsUnread files name role (exits.OtherStore stored wanted) = ⊥

-- Why bytes give no application.
abbrev pub IsUnopened : List ℕ → ExitReason → Type 0
IsUnopened bytes exit_reason =
    ((line : List ℕ) × (exit_reason ≡ exits.AppRefused line) × IsRefusedBy bytes line)
    ⊎ (exit_reason ≡ exits.Memory)

-- Why the file with this name gives no application.
abbrev pub IsAppless : Span FilesSeen → List ℕ → ExitReason → Type 0
IsAppless files name exit_reason =
    IsUnread files name roles.App exit_reason
    ⊎ ((bytes : List ℕ) × IsReadAs files name roles.App bytes × IsUnopened bytes exit_reason)

-- The same reason, for the application to upgrade to.
abbrev pub of_next : ExitReason → ExitReason
of_next (exits.AppRefused line) = exits.NewRefused line
of_next exit_reason = exit_reason

-- Why bytes give no application to upgrade to.
abbrev pub IsNextUnopened : List ℕ → ExitReason → Type 0
IsNextUnopened bytes exit_reason =
    ((line : List ℕ) × (exit_reason ≡ exits.NewRefused line) × IsRefusedBy bytes line)
    ⊎ (exit_reason ≡ exits.Memory)

-- Why bytes give no sessions.
abbrev pub IsUnlisted : List ℕ → ExitReason → Type 0
IsUnlisted bytes exit_reason = ((line : ℕ) × (exit_reason ≡ exits.SessionsRefused line)
    × (sessions_in bytes ≡ Err line)) ⊎ (exit_reason ≡ exits.Memory)

-- Why a file with this name, if there is a name, gives no sessions.
abbrev pub IsSessionless : Span FilesSeen → Option (List ℕ) → ExitReason → Type 0
IsSessionless files None exit_reason = ⊥
IsSessionless files (Some name) exit_reason =
    IsUnread files name roles.Sessions exit_reason
    ⊎ ((line : ℕ) × (exit_reason ≡ exits.SessionsRefused line) × HasBadLine files (Some name) line)
