-- The states of a store in which requests may be answered.
use Rattle.std.specs.Prelude.{◌≤◌, ℕ, Bool, length}
use Rattle.jac_lang.specs.Syntax.{Application}
use Rattle.jac_rows.specs.declared.state.State.{State}
use Rattle.jac_rows.specs.Good.{IsSound}
use Rattle.jac_rows.specs.Project.{project_at}
use Rattle.jac_plain.specs.Models.{AreFlat}

-- A sound state with a table for each model. Under every assignment, only nested models have wide
-- ids.
pub record IsStart (app : Application) (s : State) : Type 0 where
  pub sound : IsSound s
  pub tables : length app.models ≤ length s.tables
  pub flat : (w : ℕ → Bool) → AreFlat app.models (project_at w s).tables
