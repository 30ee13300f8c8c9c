-- The change that upgrades the rows of a store.
use Rattle.std.specs.Prelude.{◌≡◌, ℕ, ◌==◌, Bool, false, true, if◌then◌else◌, List, [], ◌∷◌, map}
use Rattle.jac_value.specs.Ids.{model_of_id}
use Rattle.jac_world.specs.World.{shown_by, IsAscending}
use Rattle.jac_rows.specs.declared.row.Row.{Row}
use Rattle.jac_rows.specs.declared.state.State.{State}
use Rattle.jac_rows.specs.Tables.{rows_of}
use Rattle.jac_keep.specs.declared.alteration.Alteration.{Alteration}

-- The record has a row among these.
abbrev pub has_alternative : ℕ → List Row → Bool
has_alternative id [] = false
has_alternative id (r ∷ rows) = if r.id == id then true else has_alternative id rows

-- The ids of the records that are altered.
abbrev pub changed_ids : List Alteration → List ℕ
changed_ids changed = map (λ a. a.id) changed

-- The ids of the records that have a row in the state, ascending and without duplicates.
pub record AreIdsOf (s : State) (ids : List ℕ) : Type 0 where
  pub ascending : IsAscending ids
  pub each : (id : ℕ) → shown_by ids id ≡ has_alternative id (rows_of s.tables (model_of_id id))
