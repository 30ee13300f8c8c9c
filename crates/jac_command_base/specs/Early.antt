-- How a command ends early: its files have no application, or no sessions.
use Rattle.std.specs.Prelude.{⊤, ℕ, Result, Ok, Err, List}
use Rattle.jac_io.specs.Faults.{Rose}
use Rattle.jac_lang.specs.Syntax.{Application}
use Rattle.jac_cli.specs.declared.words.Command.{Command}
use Rattle.jac_command_base.specs.declared.exit_reason.ExitReason.{ExitReason}
use Rattle.jac_command_base.specs.declared.exit_reason.ExitReason.TheVariants as exits
use Rattle.jac_cli.specs.declared.role.Role.TheVariants as roles
use Rattle.jac_app_load.specs.Refusal.{IsRefusedBy}
use Rattle.jac_cli.specs.Commands.{file_of}
use Rattle.jac_command_base.specs.Files.{Sight, IsRead, IsLong, HasApplication, HasBadLine, IsReached, IsIdle}

-- How the first steps end early.
abbrev pub EndsOpening : Sight → Command → ExitReason → Type 0
EndsOpening seen command (exits.AppRefused line) = (bytes : List ℕ)
    × IsRead seen command roles.App bytes × IsRefusedBy bytes line
EndsOpening seen command (exits.NewRefused line) =
    IsReached seen command roles.New × ((bytes : List ℕ) × IsRead seen command roles.New bytes
    × IsRefusedBy bytes line)
EndsOpening seen command (exits.SessionsRefused line) = ((app : Application)
    × HasApplication seen command app) × HasBadLine seen.files (file_of command roles.Sessions) line
EndsOpening seen command (exits.ReadFault role) = IsReached seen command role
    × Rose seen.files.before.faults seen.files.after.faults
EndsOpening seen command (exits.TooLong role) = IsReached seen command role
    × IsLong seen command role
EndsOpening seen command exits.Memory = ⊤
EndsOpening seen command exit_reason = ⊥

-- The command ended before the audit was aimed.
abbrev pub IsEndedEarly : Sight → Command → Result (Unit {0}) ExitReason → List ℕ → List ℕ → Type 0
IsEndedEarly seen command (Ok done) out audit = ⊥
IsEndedEarly seen command (Err exit_reason) out audit = EndsOpening seen command exit_reason
    × IsIdle seen.audit seen.keeper out audit
