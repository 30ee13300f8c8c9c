-- Projection: the plain rows, tables and state that an assignment shows.
use Rattle.std.specs.Prelude.{ℕ, Bool, if◌then◌else◌, List, [], ◌∷◌, map}
use Rattle.jac_world.specs.World.{holds}
use Rattle.jac_rows.specs.declared.row.Row.{Row}
use Rattle.jac_rows.specs.declared.plain.PlainRow.{PlainRow}
use Rattle.jac_rows.specs.declared.state.State.{State}
use Rattle.jac_rows.specs.declared.plain.PlainState.{PlainState}

-- The rows whose guard holds, in their order and without guards.
abbrev pub rows_at : (ℕ → Bool) → List Row → List PlainRow
rows_at w [] = []
rows_at w (r ∷ rs) = if holds w r.guard then record { id = r.id; cells = r.cells } ∷ rows_at w rs
    else rows_at w rs

abbrev pub project_at : (ℕ → Bool) → State → PlainState
project_at w s = record { tables = map (rows_at w) s.tables; number = s.number }
