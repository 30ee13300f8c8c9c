-- A field of a record.
use Rattle.std.specs.Prelude.{ℕ, Option, Some, None, List, [], ◌∷◌, slice_get}
use Rattle.jac_value.specs.declared.value.Value.{Value}
use Rattle.jac_rows.specs.declared.plain.PlainRow.{PlainRow}

-- The value, if there is one. Otherwise the absent value.
abbrev pub value_or : Value → Option Value → Value
value_or absent None = absent
value_or absent (Some v) = v

-- The cell of this field, if there is one. Otherwise the absent value.
abbrev pub cell_or : List Value → ℕ → Value → Value
cell_or cells field absent = value_or absent (slice_get cells field)

-- The field of the first row. If there is no row, the other value.
abbrev pub field_from : ℕ → Value → Value → List PlainRow → Value
field_from field absent other [] = other
field_from field absent other (r ∷ rs) = cell_or r.cells field absent

-- The field of the first row. If there is no row, the absent value.
abbrev pub field_of : ℕ → Value → List PlainRow → Value
field_of field absent rs = field_from field absent absent rs
