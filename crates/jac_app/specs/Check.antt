-- What `check` writes, and why it ends.
use Rattle.std.specs.Prelude.{◌⊎◌, ℕ, Result, List, [], ◌++◌, length, codes, decimal}
use Rattle.jac_lang.specs.Syntax.{Application}
use Rattle.jac_cli.specs.declared.words.Command.{Command}
use Rattle.jac_command_base.specs.declared.exit_reason.ExitReason.{ExitReason}
use Rattle.jac_command_base.specs.Files.{Sight, HasApplication, IsIdle}
use Rattle.jac_command_base.specs.Early.{IsEndedEarly}
use Rattle.jac_command_base.specs.ExitReason.{PutsText}

-- `ok M models, V views` and a line feed, with the numbers of models and views.
abbrev pub checked_text : Application → List ℕ
checked_text app = codes "ok " ++ decimal (length app.models) ++ codes " models, " ++ decimal
    (length app.views) ++ codes " views\n"

-- The application was read, and its counts were put.
pub record PutsChecked (seen : Sight) (command : Command) (result : Result (Unit {0}) ExitReason)
    (out audit : List ℕ) : Type 0 where
  pub app : Application
  pub application : HasApplication seen command app
  pub text : PutsText seen.out (checked_text app) result out
  pub idle : IsIdle seen.audit seen.keeper [] audit

-- What the steps of a check put, and why they ended.
abbrev pub EndsCheck : Sight → Command → Result (Unit {0}) ExitReason → List ℕ → List ℕ → Type 0
EndsCheck seen command result out audit = IsEndedEarly seen command result out audit
    ⊎ PutsChecked seen command result out audit
