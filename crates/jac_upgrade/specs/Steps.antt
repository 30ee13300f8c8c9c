-- Steps on the way to the change of an upgrade.
use Rattle.std.specs.Prelude.{◌≡◌, ℕ, ◌+◌, ◌<◌, ◌≤◌, ◌==◌, Bool, true, false, if◌then◌else◌, List, [], ◌∷◌, ◌++◌, length, map}
use Rattle.std.specs.List.{AllByRecursion}
use Rattle.jac_value.specs.Ids.{is_id_of, model_of_id}
use Rattle.jac_value.specs.declared.value.Value.{Value}
use Rattle.jac_world.specs.World.{holds, guard_wants}
use Rattle.jac_lang.specs.Syntax.{Entity}
use Rattle.jac_rows.specs.Tables.{rows_of}
use Rattle.jac_rows.specs.declared.row.Row.{Row}
use Rattle.jac_rows.specs.declared.state.State.{State}
use Rattle.jac_keep.specs.Records.{alternatives, AreOf, AreOrdered}
use Rattle.jac_keep.specs.declared.alteration.Alteration.{Alteration}
use Rattle.jac_write.specs.Regrouped.{stays}
use Rattle.jac_write.specs.Writes.{cells_at}
use Rattle.jac_upgrade.specs.Changed.{has_alternative}
use Rattle.jac_upgrade.specs.Upgraded.{draft_of, group_count, upgraded_cells}

-- The row with its cells, followed by the defaults of the fields that were added.
abbrev pub drafted_row : List Entity → List Entity → ℕ → Row → Row
drafted_row olds news m r = record r { cells = draft_of olds news m r.cells }

-- The guard of each row holds under some assignment.
abbrev pub AreMet : List Row → Type 0
AreMet rows = AllByRecursion (λ (r : Row). holds (guard_wants r.guard) r.guard ≡ true) rows

-- The cells of the rows of a record after an upgrade.
abbrev pub upgraded_all : (ℕ → Bool) → List Entity → List Entity → ℕ → ℕ → List (List Value)
    → List (List Value)
upgraded_all w olds news m id cells =
    if stays news w m id (group_count olds m) then map (upgraded_cells w olds news m id) cells
    else []

-- The new rows belong to the record, and their guards can hold. Under each assignment that shows at
-- most one of the old rows, they show its cells after the upgrade.
pub record IsRenewed (olds news : List Entity) (m id : ℕ) (old new : List Row) : Type 0 where
  pub of : AreOf id new
  pub met : AreMet new
  pub shown : (w : ℕ → Bool) → length (cells_at w old) ≤ 1 → cells_at w new ≡ upgraded_all w olds
      news m id (cells_at w old)

-- The alteration is that of a record of the model, from all rows that the record has in the list.
pub record IsUpgradeIn (olds news : List Entity) (m : ℕ) (rows : List Row) (a : Alteration) : Type 0
  where
    pub one : is_id_of a.id m ≡ true
    pub there : has_alternative a.id rows ≡ true
    pub renewed : IsRenewed olds news m a.id (alternatives a.id rows) a.rows

-- The alteration has only rows of its own record.
abbrev pub IsOwnAlteration : Alteration → Type 0
IsOwnAlteration a = AreOf a.id a.rows

abbrev pub is_changed : ℕ → List Alteration → Bool
is_changed id [] = false
is_changed id (a ∷ rest) = if a.id == id then true else is_changed id rest

-- The first row belongs to the record.
abbrev pub starts_with : ℕ → List Row → Bool
starts_with id [] = false
starts_with id (r ∷ rows) = r.id == id

-- The record of the first row is altered if its id belongs to the model.
pub record AltersFirst (olds news : List Entity) (m : ℕ) (rows : List Row)
    (old new : List Alteration) : Type 0 where
  pub more : List Alteration
  pub added : new ≡ old ++ more
  pub own : AllByRecursion IsOwnAlteration more
  pub each : AllByRecursion (λ (a : Alteration). (is_id_of a.id m ≡ true)
      × (starts_with a.id rows ≡ true) × IsRenewed olds news m a.id rows a.rows) more
  pub named : (id : ℕ) → is_id_of id m ≡ true → starts_with id rows ≡ true
      → is_changed id more ≡ true

-- The number of rows at the front that belong to the record, or to the record of the first row.
abbrev pub front_count : ℕ → List Row → ℕ
front_count id [] = 0
front_count id (r ∷ rows) = if r.id == id then front_count id rows + 1 else 0

abbrev pub first_count : List Row → ℕ
first_count [] = 0
first_count (r ∷ rows) = front_count r.id rows + 1

-- Each record of the model that has a row in the list is altered, if the ids of the rows don't
-- fall.
pub record AltersRows (olds news : List Entity) (m : ℕ) (rows : List Row)
    (old new : List Alteration) : Type 0 where
  pub more : List Alteration
  pub added : new ≡ old ++ more
  pub own : AllByRecursion IsOwnAlteration more
  pub each : AreOrdered rows → AllByRecursion (IsUpgradeIn olds news m rows) more
  pub named : AreOrdered rows → (id : ℕ) → is_id_of id m ≡ true → has_alternative id rows ≡ true
      → is_changed id more ≡ true

-- The alteration is that of a record of the state.
pub record IsUpgradeOf (olds news : List Entity) (s : State) (a : Alteration) : Type 0 where
  pub within : model_of_id a.id < length olds
  pub upgrade : IsUpgradeIn olds news (model_of_id a.id) (rows_of s.tables (model_of_id a.id)) a

-- Each record of the models below this one is altered.
pub record AltersBelow (olds news : List Entity) (s : State) (m : ℕ) (made : List Alteration) : Type
    0 where
  pub each : AllByRecursion (IsUpgradeOf olds news s) made
  pub named : (id : ℕ) → model_of_id id < m → has_alternative id (rows_of s.tables (model_of_id id))
      ≡ true → is_changed id made ≡ true
