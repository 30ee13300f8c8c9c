-- What alternatives give to a read if their guards hold.
use Rattle.std.specs.Prelude.{ℕ, Bool, if◌then◌else◌, List, [], ◌∷◌, ◌++◌, Option, Some, None, slice_get}
use Rattle.jac_value.specs.declared.value.Value.{Value}
use Rattle.jac_rows.specs.declared.row.Row.{Row}
use Rattle.jac_world.specs.World.{holds}

-- The id of the alternative's record, and its cell at the field, if a field is given.
abbrev pub asked_alternative : Option ℕ → ℕ → List Value → ℕ × Option Value
asked_alternative None id cells = (id, None)
asked_alternative (Some field) id cells = (id, slice_get cells field)

-- What an alternative gives if the guard holds.
abbrev pub asked_where : (ℕ → Bool) → List (ℕ × Bool) → Option ℕ → Row → List (ℕ × Option Value)
asked_where w guard field r = if holds w guard then asked_alternative field r.id r.cells ∷ []
    else []

-- What the alternatives give, each if its own guard holds.
abbrev pub asked_at : (ℕ → Bool) → Option ℕ → List Row → List (ℕ × Option Value)
asked_at w field [] = []
asked_at w field (r ∷ rows) = asked_where w r.guard field r ++ asked_at w field rows

-- The joined guard, or the guard of the row if there is none.
abbrev pub joined_guard : Option (List (ℕ × Bool)) → Row → List (ℕ × Bool)
joined_guard None r = r.guard
joined_guard (Some guard) r = guard
