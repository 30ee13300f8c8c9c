use Rattle.std.specs.Prelude.{ℕ, Option, Some, None, List, [], slice_get}

abbrev pub rows_or_none : {X : Type 0} → Option (List X) → List X
rows_or_none None = []
rows_or_none (Some t) = t

-- The rows of a model. A model without a table has no rows.
abbrev pub rows_of : {X : Type 0} → List (List X) → ℕ → List X
rows_of tables m = rows_or_none (slice_get tables m)
