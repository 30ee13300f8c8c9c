use Rattle.std.proofs.Common.{◌≡◌, ℕ, ◌==◌, ◌&&◌, Bool, true, false, not, if◌then◌else◌, List, [], ◌∷◌, refl, ap, sym, ◌∙◌, inl, inr, arith}
use Rattle.std.proofs.lemmas.Bool.{cases_lt}
use Rattle.std.specs.Bool.{Decides}
use Rattle.std.specs.Cmp.{unsigned_Decides, booleans_Decides}
use Rattle.std.proofs.lemmas.Bool.Decides.{nat_tests, Decides-and}
use mathlib.Core.Bool.{beq}
use Rattle.jac_world.specs.World.{holds, guard_wants, IsRising, StartsAbove}
use Rattle.jac_world.proofs.Merging.{equals, beq_not}
use Rattle.jac_world.proofs.Contradict.{and_true, left_true, same_sign, sign_is, holds_past, can_hold}

-- The assignment that gives `k` the value `b`, and every other label the value that `w` gives it.
abbrev turned : ℕ → Bool → (ℕ → Bool) → ℕ → Bool
turned k b w j = if j == k then b else w j

turned_past : (k : ℕ) (b : Bool) (w : ℕ → Bool) (g : List (ℕ × Bool)) → StartsAbove k g → IsRising g → holds (turned k b w) g ≡ holds w g
turned_past k b w g s r =
    holds_past k (turned k b w) w g (λ j lt. (let d : (j == k) ≡ false = grind (arith, nat_tests) in rw d refl)) s r

turned_first : (p : ℕ × Bool) (g : List (ℕ × Bool)) (b : Bool) (w : ℕ → Bool) → IsRising (p ∷ g) → holds (turned p.0 b w) (p ∷ g) ≡ (beq p.1 b && holds w g)
turned_first p g b w r = rw (equals p.0) (ap (λ rest. beq p.1 b && rest) (turned_past p.0 b w g r.0 r.1))

-- If the labels of `h` are above the first label of `p ∷ g`, the two guards don't hold under the
-- same assignments.
unlike_first : (p : ℕ × Bool) (g h : List (ℕ × Bool)) → StartsAbove p.0 h → IsRising h → ((w : ℕ → Bool) → holds w (p ∷ g) ≡ holds w h) → ⊥
unlike_first p g h s r alike =
    let v : ℕ → Bool = turned p.0 (not p.1) (guard_wants h) in
    let here : holds v h ≡ true = turned_past p.0 (not p.1) (guard_wants h) h s r ∙ can_hold h r in
    let there : holds v (p ∷ g) ≡ false = rw (equals p.0, beq_not p.1) refl in
    let clash : false ≡ true = sym there ∙ alike v ∙ here in
    cc

module _ (p q : ℕ × Bool) (g h : List (ℕ × Bool)) (label : p.0 ≡ q.0) (r : IsRising (p ∷ g)) (s : IsRising (q ∷ h)) (alike : (w : ℕ → Bool) → holds w (p ∷ g) ≡ holds w (q ∷ h)) where
  either_sign : (b : Bool) (w : ℕ → Bool) → (beq p.1 b && holds w g) ≡ (beq q.1 b && holds w h)
  either_sign b w =
      sym (turned_first p g b w r)
      ∙ alike (turned p.0 b w)
      ∙ ap (λ k. holds (turned k b w) (q ∷ h)) label
      ∙ turned_first q h b w s

  sign : p.1 ≡ q.1
  sign =
      let all : (beq q.1 q.1 && holds (guard_wants h) h) ≡ true = and_true _ _ (same_sign q.1) (can_hold h s.1) in
      sym (sign_is p.1 q.1 (left_true _ _ (either_sign q.1 (guard_wants h) ∙ all)))

  rest_alike : (w : ℕ → Bool) → holds w g ≡ holds w h
  rest_alike w =
      let here : (beq p.1 p.1 && holds w g) ≡ holds w g = rw (same_sign p.1) refl in
      let there : (beq q.1 p.1 && holds w h) ≡ holds w h = rw (sign, same_sign q.1) refl in
      sym here ∙ either_sign p.1 w ∙ there

-- Rising guards that hold under the same assignments are equal.
pub same_pairs : (g h : List (ℕ × Bool)) → IsRising g → IsRising h → ((w : ℕ → Bool) → holds w g ≡ holds w h) → g ≡ h
same_pairs [] [] r s alike = refl
same_pairs [] (q ∷ h) r s alike = absurd (unlike_first q h [] tt tt (λ w. sym (alike w)))
same_pairs (p ∷ g) [] r s alike = absurd (unlike_first p g [] tt tt alike)
same_pairs (p ∷ g) (q ∷ h) r s alike =
    let rest : p.0 ≡ q.0 → g ≡ h = λ label. same_pairs g h r.1 s.1 (rest_alike p q g h label r s alike) in
    elim (cases_lt p.0 q.0) [
      | inl less ↦ absurd (unlike_first p g (q ∷ h) less s alike)
      | inr no_less ↦ elim (cases_lt q.0 p.0) [
        | inl more ↦ absurd (unlike_first q h (p ∷ g) more r (λ w. sym (alike w)))
        | inr no_more ↦
            (let label : p.0 ≡ q.0 = omega (arith, no_less, no_more) in
            let b : p.1 ≡ q.1 = sign p q g h label r s alike in
            let tail : g ≡ h = rest label in
            λ i. (label i, b i) ∷ tail i)
      ]
    ]

-- The test decides whether two pairs are equal.
pub pairs_decide : (p q : ℕ × Bool) → Decides ((p.0 == q.0) && beq p.1 q.1) (p ≡ q)
pairs_decide p q =
    let both : Decides ((p.0 == q.0) && beq p.1 q.1) ((p.0 ≡ q.0) × (p.1 ≡ q.1)) = Decides-and (p.0 == q.0) (beq p.1 q.1) (unsigned_Decides p.0 q.0) (booleans_Decides p.1 q.1) in (
      (λ e. let here : (p.0 ≡ q.0) × (p.1 ≡ q.1) = both.0 e in λ i. (here.0 i, here.1 i)),
      (λ h. both.1 (ap (λ r. r.0) h, ap (λ r. r.1) h)),
    )

-- A test that decides whether the lists of pairs are equal decides whether the guards are.
pub told_equal : (g h xs ys : List (ℕ × Bool)) (r : Bool) → xs ≡ g → ys ≡ h → Decides r (xs ≡ ys) → Decides r (g ≡ h)
told_equal g h xs ys r mine other d = (λ e. sym mine ∙ d.0 e ∙ other, λ e. d.1 (mine ∙ e ∙ sym other))

pub told_alike : (g h : List (ℕ × Bool)) (r : Bool) → IsRising g → IsRising h → Decides r (g ≡ h) → Decides r ((w : ℕ → Bool) → holds w g ≡ holds w h)
told_alike g h r mine other d = (λ e w. ap (holds w) (d.0 e), λ alike. d.1 (same_pairs g h mine other alike))
