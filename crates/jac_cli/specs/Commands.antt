-- The files that each command names, and its other arguments.
use Rattle.std.specs.Prelude.{◌≤◌, ⊤, ℕ, Bool, false, Option, Some, None, List, [], codes}
use Rattle.jac_cli.specs.declared.words.Command.{Command}
use Rattle.jac_cli.specs.declared.words.Command.TheVariants as commands
use Rattle.jac_cli.specs.declared.role.Role.{Role}
use Rattle.jac_cli.specs.declared.role.Role.TheVariants as roles

-- A file that isn't named has the empty name.
abbrev pub name_or_empty : Option (List ℕ) → List ℕ
name_or_empty None = []
name_or_empty (Some name) = name

-- The file of a command with this role.
abbrev pub file_of : Command → Role → Option (List ℕ)
file_of (commands.Check app) roles.App = Some app
file_of (commands.Check app) roles.New = None
file_of (commands.Check app) roles.Sessions = None
file_of (commands.Check app) roles.Events = None
file_of (commands.Replay replay) roles.App = Some replay.app
file_of (commands.Replay replay) roles.New = None
file_of (commands.Replay replay) roles.Sessions = replay.sessions
file_of (commands.Replay replay) roles.Events = Some replay.events
file_of (commands.Serve serving) roles.App = Some serving.app
file_of (commands.Serve serving) roles.New = None
file_of (commands.Serve serving) roles.Sessions = serving.sessions
file_of (commands.Serve serving) roles.Events = None
file_of (commands.Demo n) role = None
file_of (commands.Dump dumping) roles.App = Some dumping.app
file_of (commands.Dump dumping) roles.New = None
file_of (commands.Dump dumping) roles.Sessions = None
file_of (commands.Dump dumping) roles.Events = None
file_of (commands.Upgrade upgrading) roles.App = Some upgrading.app
file_of (commands.Upgrade upgrading) roles.New = Some upgrading.next
file_of (commands.Upgrade upgrading) roles.Sessions = None
file_of (commands.Upgrade upgrading) roles.Events = None
file_of (commands.Why explaining) roles.App = Some explaining.app
file_of (commands.Why explaining) roles.New = None
file_of (commands.Why explaining) roles.Sessions = None
file_of (commands.Why explaining) roles.Events = None

abbrev pub name_of : Command → Role → List ℕ
name_of command role = name_or_empty (file_of command role)

-- The file of the audit. Below, that of the store.
abbrev pub audit_of : Command → Option (List ℕ)
audit_of (commands.Replay replay) = replay.audit
audit_of (commands.Serve serving) = serving.audit
audit_of command = None

abbrev pub db_of : Command → Option (List ℕ)
db_of (commands.Replay replay) = replay.db
db_of (commands.Serve serving) = serving.db
db_of (commands.Dump dumping) = dumping.db
db_of (commands.Upgrade upgrading) = Some upgrading.db
db_of (commands.Why explaining) = explaining.db
db_of command = None

-- Whether a page of a GET resolves only the labels that it consults.
abbrev pub lazy_of : Command → Bool
lazy_of (commands.Replay replay) = replay.lazy
lazy_of (commands.Serve serving) = serving.lazy
lazy_of command = false

-- The number of a demo is one that words may give.
abbrev pub HasCount : Command → Type 0
HasCount (commands.Demo n) = (1 ≤ n) × (n ≤ 2000)
HasCount command = ⊤

-- The number of bytes that each file may have.
abbrev pub limit_of : Role → ℕ
limit_of roles.App = 1048576
limit_of roles.New = 1048576
limit_of roles.Sessions = 1048576
limit_of roles.Events = 16777216

abbrev pub limit_text : Role → List ℕ
limit_text roles.App = codes ", limit 1048576\n"
limit_text roles.New = codes ", limit 1048576\n"
limit_text roles.Sessions = codes ", limit 1048576\n"
limit_text roles.Events = codes ", limit 16777216\n"
