-- The cells that a create or an update sets, by the places of their fields.
use Rattle.std.specs.Prelude.{ℕ, List, [], ◌∷◌, slice_set, Option, Some, None}
use Rattle.jac_value.specs.declared.value.Value.{Value}
use Rattle.jac_lang.specs.declared.field_kinds.Field.{Field}
use Rattle.jac_lang.specs.Lookup.{field_place}
use Rattle.jac_lang.specs.Syntax.{Expression, Assigned}

abbrev pub placed_at : Option ℕ → Value → List (ℕ × Value) → List (ℕ × Value)
placed_at None v rest = rest
placed_at (Some f) v rest = (f, v) ∷ rest

-- Each value that is set, with its field's place. A field that the model doesn't have is left out.
abbrev pub placed_sets : List Field → (Expression → Value) → List Assigned → List (ℕ × Value)
placed_sets fields value_of [] = []
placed_sets fields value_of (a ∷ rest) = placed_at (field_place fields a.field) (value_of a.value)
    (placed_sets fields value_of rest)

-- The cells with these values in their places, whatever their kinds.
abbrev pub put_raw : List (ℕ × Value) → List Value → List Value
put_raw [] cells = cells
put_raw (s ∷ sets) cells = put_raw sets (slice_set cells s.0 s.1)
