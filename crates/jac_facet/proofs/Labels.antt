use Rattle.std.proofs.Common.{◌≡◌, ℕ, ◌<◌, ◌==◌, ◌||◌, Bool, true, false, List, [], ◌∷◌, refl, arith}
use Rattle.std.proofs.lemmas.Bool.Decides.{nat_tests}
use Rattle.jac_world.specs.World.{has_pair, IsRising, StartsAbove}
use Rattle.jac_facet.specs.Shape.{Shape, one, fork, Above, IsOrdered, has_label}

no_one : (a b c : Bool) → a ≡ false → b ≡ false → c ≡ false → (a || b || c) ≡ false
no_one a b c p q r = rw (p, q) r

pub above_lower : {T : Type 0} (j k : ℕ) (s : Shape T) → j < k → Above k s → Above j s
above_lower j k (one x) lt a = tt
above_lower j k (fork i h l) lt a = omega arith

-- A label below the first is nowhere in an ordered facet.
pub above_absent : {T : Type 0} (k : ℕ) (s : Shape T) → IsOrdered s → Above k s → has_label k s ≡ false
above_absent k (one x) o a = refl
above_absent k (fork j h l) o a =
    let d : (j == k) ≡ false = grind (arith, nat_tests) in
    no_one _ _ _ d
    (above_absent k h o.2 (above_lower k j h a o.0))
    (above_absent k l o.3 (above_lower k j l a o.1))

pub starts_at : (k : ℕ) (g h : List (ℕ × Bool)) (p : ℕ × Bool) → h ≡ p ∷ g → k < p.0 → StartsAbove k h
starts_at k g h p e lt = rw e lt

differs : (a b : ℕ) → b < a → (a == b) ≡ false
differs a b h = grind (arith, nat_tests)

-- A label below the first isn't in a rising guard.
absent : (k : ℕ) (b : Bool) (g : List (ℕ × Bool)) → StartsAbove k g → IsRising g → has_pair g k b ≡ false
absent k b [] s r = refl
absent k b (q ∷ []) s r = rw (differs q.0 k s) refl
absent k b (q ∷ (p ∷ g)) s r =
    let t : k < p.0 = omega arith in
    rw (differs q.0 k s) (absent k b (p ∷ g) t r.1)

pub not_below : (k j : ℕ) (b : Bool) (g : List (ℕ × Bool)) → StartsAbove k g → IsRising g → has_pair g j b ≡ true → j ≡ k → ⊥
not_below k j b g s r h e =
    let f : has_pair g k b ≡ false = absent k b g s r in
    let t : has_pair g k b ≡ true = rw (← e) h in
    cc
