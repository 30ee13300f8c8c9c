-- States of one model, whose records have alternatives.
use Rattle.std.specs.Prelude.{ℕ, Bool, true, false, List, [], ◌∷◌, codes}
use Rattle.jac_value.specs.declared.value.Kind.TheVariants as kind
use Rattle.jac_value.specs.declared.value.Value.TheVariants as value
use Rattle.jac_rows.specs.declared.row.Row.{Row}
use Rattle.jac_rows.specs.declared.state.State.{State}
use Rattle.jac_rows.specs.Good.{ModelShape}

-- A row without cells.
abbrev pub guarded_row : ℕ → List (ℕ × Bool) → Row
guarded_row id guard = record { id = id; guard = guard; cells = [] }

-- Towns have a name.
abbrev pub town_shapes : List ModelShape
town_shapes = record { kinds = kind.Text ∷ []; nested = false } ∷ []

-- A town whose name is shown under its label only.
abbrev pub towns : List Row
towns = record { id = 4096; guard = (32768, true) ∷ []; cells = value.Text (codes "Rome") ∷ [] }
    ∷ record { id = 4096; guard = (32768, false) ∷ []; cells = value.Text [] ∷ [] } ∷ []

abbrev pub guarded_towns : State
guarded_towns = record { tables = towns ∷ []; number = 2 }
