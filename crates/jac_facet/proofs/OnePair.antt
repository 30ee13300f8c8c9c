-- The conjunction of a guard and one pair: it holds if both hold, and no other rising guard holds
-- under the same assignments.
use Rattle.std.proofs.Common.{◌≡◌, ℕ, ◌<◌, ◌==◌, ◌&&◌, ◌||◌, Bool, true, false, not, if◌then◌else◌, nat_lt, Option, Some, None, List, [], ◌∷◌, refl, ap, sym, ◌∙◌, inl, inr, suc, arith}
use Rattle.std.proofs.lemmas.Bool.Decides.{eqb_tells, leb_tells, nat_tests}
use mathlib.Core.Bool.{beq}
use Rattle.jac_world.specs.World.{holds, both, contradict, IsRising, StartsAbove}
use Rattle.jac_world.proofs.Alike.{same_pairs}
use Rattle.jac_facet.specs.Leaves.{with_pair, guard_where}

left_false : (a b : Bool) → (a || b) ≡ false → a ≡ false
left_false true b p = p
left_false false b p = refl

right_false : (a b : Bool) → (a || b) ≡ false → b ≡ false
right_false true b p = cc
right_false false b p = p

and-assoc : (a b c : Bool) → (a && (b && c)) ≡ ((a && b) && c)
and-assoc true b c = refl
and-assoc false b c = refl

swapped : (a r : Bool) → (a && r) ≡ (r && (a && true))
swapped true true = refl
swapped true false = refl
swapped false true = refl
swapped false false = refl

absorbed : (a r b : Bool) → b ≡ a → (a && r) ≡ ((a && r) && (b && true))
absorbed true true true e = refl
absorbed true true false e = sym e
absorbed true false b e = refl
absorbed false r b e = refl

same_sign : (t b c : Bool) → t ≡ true → ((t && beq b (not c)) || false) ≡ false → b ≡ c
same_sign true true true e p = refl
same_sign true true false e p = p
same_sign true false true e p = sym p
same_sign true false false e p = refl
same_sign false b c e p = cc

pub holds_with : (w : ℕ → Bool) (k : ℕ) (b : Bool) (g : List (ℕ × Bool)) → contradict g ((k, b) ∷ []) ≡ false → holds w (with_pair k b g) ≡ both w g ((k, b) ∷ [])
holds_with w k b [] n = refl
holds_with w k b (p ∷ g) n =
    let rest : holds w (with_pair k b g) ≡ both w g ((k, b) ∷ []) = holds_with w k b g (right_false _ _ n) in
    elim (leb_tells (suc p.0) k) [
      | inl h ↦ rw h.0 (ap (λ r. beq p.1 (w p.0) && r) rest ∙ and-assoc (beq p.1 (w p.0)) (holds w g) (holds w ((k, b) ∷ [])))
      | inr h ↦
          rw h.0
          (elim (eqb_tells p.0 k) [
            | inl e ↦
                (let d : p.0 ≡ k = e.1 in
                let t : (k == p.0) ≡ true = grind (arith, nat_tests) in
                let s : b ≡ p.1 = same_sign (k == p.0) b p.1 t (left_false _ _ n) in
                let x : beq b (w k) ≡ beq p.1 (w p.0) = rw (s, d) refl in
                rw e.0 (absorbed (beq p.1 (w p.0)) (holds w g) (beq b (w k)) x))
            | inr e ↦ rw e.0 (swapped (beq b (w k)) (holds w (p ∷ g)))
          ])
    ]

starts_with : (j k : ℕ) (b : Bool) (g : List (ℕ × Bool)) → j < k → StartsAbove j g → StartsAbove j (with_pair k b g)
starts_with j k b [] lt s = lt
starts_with j k b (p ∷ g) lt s =
    elim (nat_lt p.0 k) as (λ c. StartsAbove j (if c then p ∷ with_pair k b g else (if p.0 == k then p ∷ g else (k, b) ∷ (p ∷ g)))) [
      | true ↦ s
      | false ↦ elim (p.0 == k) as (λ c. StartsAbove j (if c then p ∷ g else (k, b) ∷ (p ∷ g))) [ true ↦ s | false ↦ lt ]
    ]

rising_with : (k : ℕ) (b : Bool) (g : List (ℕ × Bool)) → IsRising g → IsRising (with_pair k b g)
rising_with k b [] r = (tt, tt)
rising_with k b (p ∷ g) r =
    elim (leb_tells (suc p.0) k) [
      | inl h ↦ rw h.0 (starts_with p.0 k b g (omega arith) r.0, rising_with k b g r.1)
      | inr h ↦
          rw h.0
          (elim (eqb_tells p.0 k) [
            | inl e ↦ rw e.0 r
            | inr e ↦ rw e.0 ((omega arith), r)
          ])
    ]

-- A rising guard that holds exactly if the guard does and the label has the sign is `guard_where`.
pub some_where : (g m : List (ℕ × Bool)) (k : ℕ) (b : Bool) → IsRising g → IsRising m → contradict g ((k, b) ∷ []) ≡ false → ((w : ℕ → Bool) → holds w m ≡ both w g ((k, b) ∷ [])) → Some m ≡ guard_where g k b
some_where g m k b r s n alike =
    rw n (ap Some (same_pairs m (with_pair k b g) s (rising_with k b g r) (λ w. alike w ∙ sym (holds_with w k b g n))))
