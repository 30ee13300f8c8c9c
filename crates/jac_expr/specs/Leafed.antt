-- What is read at the leaves of a facet, and from the rows of a record.
use Rattle.std.specs.Prelude.{ℕ, Bool, true, false, pos, List, [], ◌∷◌, Option, Some, None}
use Rattle.jac_value.specs.declared.value.Value.{Value}
use Rattle.jac_value.specs.declared.value.Value.TheVariants as value
use Rattle.jac_facet.specs.Shape.{Shape, at}
use Rattle.jac_value.specs.Ids.{model_of_id}
use Rattle.jac_plain.specs.Expressions.{stands}
use Rattle.jac_plain.specs.World.{record_with}
use Rattle.jac_rows.specs.Tables.{rows_of}
use Rattle.jac_rows.specs.declared.plain.PlainRow.{PlainRow}

-- The result of the function for the last value. If there is no value, the other value.
abbrev pub last_by : (Value → Value) → Value → List Value → Value
last_by f other [] = other
last_by f other (v ∷ vs) = last_by f (f v) vs

-- The first row, if there is one.
abbrev pub first_row : List PlainRow → Option PlainRow
first_row [] = None
first_row (r ∷ rs) = Some r

-- True if there is a row. Otherwise the other value.
abbrev pub stood_by : Value → List PlainRow → Value
stood_by other [] = other
stood_by other (r ∷ rows) = stood_by (value.Bool true) rows

-- Whether the record that the value refers to is in the tables.
abbrev pub stands_in : List (List PlainRow) → Value → Bool
stands_in tables (value.Ref (Some id)) = stands (record_with id (rows_of tables (model_of_id id)))
stands_in tables v = false

-- The value that the facet shows. If there is no facet, 0.
abbrev pub shown_or_zero : (ℕ → Bool) → Option (Shape Value) → Value
shown_or_zero w None = value.Int (pos 0)
shown_or_zero w (Some f) = at w f
