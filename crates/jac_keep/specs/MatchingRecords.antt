-- The records that have a row with a given value in a field.
use Rattle.std.specs.Prelude.{ℕ, ◌==◌, Bool, false, ◌&&◌, if◌then◌else◌, List, [], ◌∷◌, Option, Some, None, slice_get}
use Rattle.std.specs.List.{list_any}
use Rattle.jac_value.specs.declared.value.Value.{Value}
use Rattle.jac_value.specs.contracts.value.ValuePartialEq.TheImpl as equality
use Rattle.jac_rows.specs.declared.row.Row.{Row}
use Rattle.jac_keep.specs.declared.alteration.Alteration.{Alteration}
use Rattle.jac_keep.specs.Records.{with_id}

abbrev pub is_cell : Value → Option Value → Bool
is_cell v None = false
is_cell v (Some c) = equality.ghosts.eq c v

-- The row has the value in the field.
abbrev pub has_cell : ℕ → Value → Row → Bool
has_cell f v r = is_cell v (slice_get r.cells f)

-- An alternative of the record has the value in the field.
abbrev pub holds_cell : ℕ → Value → List Row → ℕ → Bool
holds_cell f v rows id = list_any (λ r. (r.id == id) && has_cell f v r) rows

-- All alternatives of the records that have an alternative with the value in the field.
abbrev pub holders : ℕ → Value → List Row → List Row
holders f v rows = with_id (holds_cell f v rows) rows

abbrev pub masked_rows : ℕ → Value → List Row → List Row
masked_rows f v rows = if list_any (has_cell f v) rows then rows else []

-- The alterations. Those without a row that has the value in the field lose their rows.
abbrev pub masked_alterations : ℕ → Value → List Alteration → List Alteration
masked_alterations f v [] = []
masked_alterations f v (a ∷ rest) = record { id = a.id; rows = masked_rows f v a.rows }
    ∷ masked_alterations f v rest
