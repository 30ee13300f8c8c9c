-- The world that an assignment shows of a state.
use Rattle.std.specs.Prelude.{◌≡◌, ℕ, Bool, List}
use Rattle.jac_value.specs.declared.value.Value.{Value}
use Rattle.jac_world.specs.World.{shown_by}
use Rattle.jac_lang.specs.declared.bindings.Binding.{Binding}
use Rattle.jac_lang.specs.Mirror.{application_of}
use Rattle.jac_lang.specs.Syntax.{Application, Expression}
use Rattle.jac_rows.specs.declared.plain.PlainRow.{PlainRow}
use Rattle.jac_rows.specs.declared.row.Row.{Row}
use Rattle.jac_rows.specs.declared.state.State.{State}
use Rattle.jac_plain.specs.Expressions.{mean}
use Rattle.jac_plain.specs.World.{World}
use Rattle.jac_shown_rows.specs.Consulted.{Agrees}
use Rattle.jac_shown_rows.specs.declared.world_context.WorldContext.{WorldContext}
use Rattle.jac_plain.specs.Shown.{world_at}

-- The application of an evaluation.
abbrev pub app_at : WorldContext → Application
app_at at = application_of at.app.now

-- The world in which its expressions are evaluated under an assignment.
abbrev pub seen_at : WorldContext → State → (ℕ → Bool) → World
seen_at at s w = world_at at.app.now at.ctx.now s w

-- Under each assignment that agrees with the evaluation's on the support, the expression has this
-- value.
abbrev pub MeansAt : List ℕ → WorldContext → State → Expression → List Binding → Value → Type 0
MeansAt support at s e env v = (w : ℕ → Bool) → Agrees support (shown_by at.assignment.now) w
    → v ≡ mean (seen_at at s w) e env

-- A row that an assignment shows, without its guard.
abbrev pub seen_row : Row → PlainRow
seen_row r = record { id = r.id; cells = r.cells }
