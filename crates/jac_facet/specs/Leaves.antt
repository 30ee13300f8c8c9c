use Rattle.std.specs.Prelude.{◌≡◌, ℕ, ◌==◌, nat_lt, ◌&&◌, Option, Some, None, Bool, true, false, not, ◌||◌, if◌then◌else◌, List, [], ◌∷◌, ◌++◌}
use Rattle.std.specs.List.{list_any}
use mathlib.Core.Bool.{beq}
use Rattle.jac_world.specs.World.{holds, contradict}
use Rattle.jac_facet.specs.Shape.{Shape, one, fork}

-- The guard that holds if `g` holds and the label has the sign, or none if this is impossible.
abbrev pub IsWhere : List (ℕ × Bool) → ℕ → Bool → Option (List (ℕ × Bool)) → Type 0
IsWhere g k b None = (w : ℕ → Bool) → (holds w g && beq b (w k)) ≡ false
IsWhere g k b (Some m) = (w : ℕ → Bool) → holds w m ≡ (holds w g && beq b (w k))

-- The pairs of a guard and one more pair, in rising order of the labels. If the guard has the label
-- already, its pairs are unchanged.
abbrev pub with_pair : ℕ → Bool → List (ℕ × Bool) → List (ℕ × Bool)
with_pair k b [] = (k, b) ∷ []
with_pair k b (p ∷ g) = if nat_lt p.0 k then p ∷ with_pair k b g else (if p.0 == k then p ∷ g
    else (k, b) ∷ (p ∷ g))

-- The guard with the pair, or none if the guard has the label with the opposite sign.
abbrev pub guard_where : List (ℕ × Bool) → ℕ → Bool → Option (List (ℕ × Bool))
guard_where g k b = if contradict g ((k, b) ∷ []) then None else Some (with_pair k b g)

module _ {T : Type 0} where
  -- The leaves that can be reached if the guard holds, high sides first. Each comes with the pairs
  -- of the guard and of the labels above it.
  abbrev pub leaves_of : List (ℕ × Bool) → Shape T → List (List (ℕ × Bool) × T)
  leaves_of g (one x) = (g, x) ∷ []
  leaves_of g (fork k h l) = (if contradict g ((k, true) ∷ []) then []
      else leaves_of (with_pair k true g) h)
      ++ (if contradict g ((k, false) ∷ []) then [] else leaves_of (with_pair k false g) l)

  -- The values whose guards hold, in their order.
  abbrev pub leaves_seen : (ℕ → Bool) → List (List (ℕ × Bool) × T) → List T
  leaves_seen w [] = []
  leaves_seen w (p ∷ ps) = if holds w p.0 then p.1 ∷ leaves_seen w ps else leaves_seen w ps

  -- Whether a guard of the list holds.
  abbrev pub meets : (ℕ → Bool) → List (List (ℕ × Bool) × T) → Bool
  meets w ps = list_any (λ p. holds w p.0) ps

  -- Whether the first guard that holds under `v` is before the first that holds under `w`.
  abbrev pub is_shown_before : (ℕ → Bool) → (ℕ → Bool) → List (List (ℕ × Bool) × T) → Bool
  is_shown_before v w [] = false
  is_shown_before v w (p ∷ ps) = if holds v p.0 then not (holds w p.0) else (if holds w p.0
      then false
      else is_shown_before v w ps)

-- Whether the guard of `v` is before that of `w` after more guards were appended. If an old guard
-- holds under either, the order is the old one. If only `v` has a new guard, it is true, and if `v`
-- has none, false. If both have one, the order is that of the new guards.
abbrev pub order_after : Bool → Bool → Bool → Bool → Bool → Bool → Bool
order_after old_v old_w v w old new = if old_v || old_w then old
    else (if v then (if w then new else true) else false)
