-- Tables with rows of any type: ids don't fall, and no two guards of one id hold together.
use Rattle.std.specs.Prelude.{◌≡◌, ℕ, ◌≤◌, Bool, List, [], ◌∷◌, ⊤}
use Rattle.jac_world.specs.World.{IsApart}

module _ {X : Type 0} (id : X → ℕ) (guard : X → List (ℕ × Bool)) where
  -- The row `x` comes before rows of the same or of larger ids, and its guard never holds together
  -- with that of a row of the same id.
  abbrev pub IsBefore : X → List X → Type 0
  IsBefore x [] = ⊤
  IsBefore x (y ∷ ys) = (id x ≤ id y) × (id x ≡ id y → IsApart (guard x) (guard y)) × IsBefore x ys

  -- Ids rise, and no two guards of one id hold together.
  abbrev pub IsTable : List X → Type 0
  IsTable [] = ⊤
  IsTable (x ∷ xs) = IsBefore x xs × IsTable xs
