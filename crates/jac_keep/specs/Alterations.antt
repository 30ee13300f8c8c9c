-- Changes to a table: for each changed record, all of its new rows.
use Rattle.std.specs.Prelude.{ℕ, ◌+◌, ◌<◌, ◌==◌, nat_lt, Bool, false, ◌||◌, if◌then◌else◌, List, [], ◌∷◌, length, ⊤, Option, Some, None}
use Rattle.jac_value.specs.Ids.{model_of_id}
use Rattle.jac_world.specs.World.{IsRisingBy}
use Rattle.jac_rows.specs.declared.row.Row.{Row}
use Rattle.jac_keep.specs.declared.alteration.Alteration.{Alteration}
use Rattle.jac_keep.specs.Records.{placed_rows, AreOf}

-- Each alteration contains rows of its own record only.
abbrev pub AreOwn : List Alteration → Type 0
AreOwn [] = ⊤
AreOwn (a ∷ rest) = AreOf a.id a.rows × AreOwn rest

-- At most one alteration for each record, by rising id. Each contains rows of its own record only.
pub record AreApart (rest : List Alteration) : Type 0 where
  pub rising : IsRisingBy (λ (a : Alteration). a.id) rest
  pub own : AreOwn rest

-- The new alternatives of a record, if the alterations include it.
abbrev pub alternatives_named : ℕ → List Alteration → Option (List Row)
alternatives_named id [] = None
alternatives_named id (a ∷ rest) = if a.id == id then Some a.rows else alternatives_named id rest

-- The alterations after one more is added. It replaces an earlier one of the same record.
abbrev pub with_alteration : ℕ → List Row → List Alteration → List Alteration
with_alteration id rows [] = record { id = id; rows = rows } ∷ []
with_alteration id rows (a ∷ rest) =
    if nat_lt a.id id
    then a ∷ with_alteration id rows rest
    else (if a.id == id then record { id = id; rows = rows } ∷ rest
    else record { id = id; rows = rows } ∷ a ∷ rest)

-- The rows of one model after the alterations of its records.
abbrev pub altered_rows : ℕ → List Alteration → List Row → List Row
altered_rows model [] rows = rows
altered_rows model (a ∷ rest) rows =
    altered_rows model rest (if model_of_id a.id == model then placed_rows a.id a.rows rows
    else rows)

-- Whether the alterations include a record of the model.
abbrev pub alters : ℕ → List Alteration → Bool
alters model [] = false
alters model (a ∷ rest) = model_of_id a.id == model || alters model rest

-- The alterations of the model's records.
abbrev pub of_model : ℕ → List Alteration → List Alteration
of_model model [] = []
of_model model (a ∷ rest) = if model_of_id a.id == model then a ∷ of_model model rest
    else of_model model rest

-- The rows after the alterations.
abbrev pub placed_each : List Alteration → List Row → List Row
placed_each [] rows = rows
placed_each (a ∷ rest) rows = placed_each rest (placed_rows a.id a.rows rows)

-- The number of rows that the alterations contain.
abbrev pub brought : List Alteration → ℕ
brought [] = 0
brought (a ∷ rest) = length a.rows + brought rest

-- The tables after the alterations. The first table is that of this model.
abbrev pub overlaid_from : ℕ → List Alteration → List (List Row) → List (List Row)
overlaid_from model rest [] = []
overlaid_from model rest (t ∷ ts) = altered_rows model rest t ∷ overlaid_from (model + 1) rest ts

-- The tables after the alterations.
abbrev pub overlaid : List Alteration → List (List Row) → List (List Row)
overlaid rest tables = overlaid_from 0 rest tables

-- The model of each altered record has a table.
abbrev pub ArePlaced : List Alteration → ℕ → Type 0
ArePlaced [] count = ⊤
ArePlaced (a ∷ rest) count = (model_of_id a.id < count) × ArePlaced rest count
