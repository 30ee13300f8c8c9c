-- The labels of all groups of the records that have rows.
use Rattle.std.specs.Prelude.{◌≡◌, ◌==◌, ℕ, zero, suc, ◌<◌, ◌≤◌, Bool, true, false, List, [], ◌∷◌, ◌++◌, length, All}
use Rattle.std.specs.List.{list_any}
use Rattle.jac_value.specs.Ids.{label_of, record_of_label, model_of_id, labels_below}
use Rattle.jac_world.specs.World.{holds, guard_wants}
use Rattle.jac_lang.specs.Lookup.{groups_at}
use Rattle.jac_lang.specs.Syntax.{Entity}
use Rattle.jac_rows.specs.declared.row.Row.{Row}
use Rattle.jac_rows.specs.declared.state.State.{State}
use Rattle.jac_rows.specs.Tables.{rows_of}

abbrev pub labels_of_rows : ℕ → List Row → List ℕ
labels_of_rows n [] = []
labels_of_rows n (r ∷ rs) = labels_below r.id n ++ labels_of_rows n rs

-- The labels of the first models, in the order of the models.
abbrev pub labels_before : List Entity → List (List Row) → ℕ → List ℕ
labels_before models tables zero = []
labels_before models tables (suc m) =
    labels_before models tables m ++ labels_of_rows (length (groups_at models m)) (rows_of tables m)

-- Each guard holds under some assignment.
abbrev pub CanHold : List Row → Type 0
CanHold rows = All (λ (r : Row). holds (guard_wants r.guard) r.guard ≡ true) rows

-- The labels of the first models. If a model has groups, each guard of its rows holds under some
-- assignment.
pub record Collects (models : List Entity) (tables : List (List Row)) (n : ℕ)
    (labels : List ℕ) : Type 0 where
  pub are : labels ≡ labels_before models tables n
  pub guards : (m : ℕ) → m < n → 0 < length (groups_at models m) → CanHold (rows_of tables m)
  pub few : (m : ℕ) → m < n → length (groups_at models m) ≤ 8

-- The record of the label has a row.
abbrev pub has_row : State → ℕ → Bool
has_row s k = list_any (λ (r : Row). r.id == record_of_label k)
    (rows_of s.tables (model_of_id (record_of_label k)))

-- No guard contradicts itself.
abbrev pub AllCanHold : State → Type 0
AllCanHold s = (m : ℕ) → CanHold (rows_of s.tables m)

-- Some assignment shows one of the rows.
pub record AreSeen (rows : List Row) : Type 0 where
  pub seen_by : ℕ → Bool
  pub seen : list_any (λ (r : Row). holds seen_by r.guard) rows ≡ true

-- Some assignment shows one of the rows, or there are no rows.
abbrev pub CanBeSeen : List Row → Bool → Type 0
CanBeSeen rows true = AreSeen rows
CanBeSeen rows false = rows ≡ []
