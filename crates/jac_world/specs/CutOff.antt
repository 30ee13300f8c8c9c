use Rattle.std.specs.Prelude.{◌≡◌, ℕ, Bool, not, ◌&&◌, if◌then◌else◌, Option, Some, None, List, [], ◌∷◌, ◌++◌}
use Rattle.jac_world.specs.World.{holds, holding, IsMeet, FollowCut}

abbrev pub guard_list : Option (List (ℕ × Bool)) → List (List (ℕ × Bool))
guard_list None = []
guard_list (Some g) = g ∷ []

-- The conjunction of `g` and `h` was added, if they can hold together.
pub record AddsMeet (g h : List (ℕ × Bool)) (old new : List (List (ℕ × Bool))) : Type 0 where
  pub meet : Option (List (ℕ × Bool))
  pub is_meet : IsMeet g h meet
  pub added : new ≡ old ++ guard_list meet

-- If `g` holds and the cut doesn't, exactly one of the guards holds, and otherwise none. They are
-- in the order in which they break the cut.
pub record IsCutOff (g cut : List (ℕ × Bool)) (gs : List (List (ℕ × Bool))) : Type 0 where
  pub exact : (w : ℕ → Bool) → holding w gs ≡ (if holds w g && not (holds w cut) then 1 else 0)
  pub order : FollowCut cut gs
