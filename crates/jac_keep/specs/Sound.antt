-- Which tables, and which alternatives of a record, are allowed in a sound state.
use Rattle.std.specs.Prelude.{◌≡◌, ℕ, List, [], ◌∷◌, ⊤}
use Rattle.std.specs.List.{AllByRecursion}
use Rattle.jac_value.specs.Ids.{model_of_id}
use Rattle.jac_rows.specs.Good.{AreRising, IsMade}
use Rattle.jac_rows.specs.declared.row.Row.{Row}
use Rattle.jac_keep.specs.declared.alteration.Alteration.{Alteration}

abbrev pub AreTables : List (List Row) → Type 0
AreTables [] = ⊤
AreTables (t ∷ ts) = AreRising t × AreTables ts

-- These alternatives of the record are allowed in a sound state with this next number.
pub record MayStand (next id : ℕ) (new : List Row) : Type 0 where
  pub own : AllByRecursion (λ (r : Row). r.id ≡ id) new
  pub rising : AreRising new
  pub made : AllByRecursion (λ (r : Row). IsMade (model_of_id id) next r.id) new

-- The alternatives of each alteration are allowed.
abbrev pub AllStand : ℕ → List Alteration → Type 0
AllStand next [] = ⊤
AllStand next (a ∷ rest) = MayStand next a.id a.rows × AllStand next rest
