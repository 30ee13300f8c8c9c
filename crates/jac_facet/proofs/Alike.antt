-- Facets that have the same value under every assignment are equal.
use Rattle.std.proofs.Common.{◌≡◌, ℕ, ◌<◌, ◌==◌, Bool, true, false, if◌then◌else◌, refl, ap, sym, ◌∙◌, inl, inr, arith}
use Rattle.std.proofs.lemmas.Bool.{cases_lt}
use Rattle.std.proofs.lemmas.Bool.Decides.{nat_tests}
use Rattle.jac_facet.specs.Shape.{Shape, one, fork, at, Above, IsOrdered}
use Rattle.jac_facet.proofs.Labels.{above_lower}

-- The assignment that gives `k` the value `b`, and every other label the value that `w` gives it.
abbrev turned : ℕ → Bool → (ℕ → Bool) → ℕ → Bool
turned k b w j = if j == k then b else w j

itself : (k : ℕ) → (k == k) ≡ true
itself k = grind (arith, nat_tests)

module _ {T : Type 0} where
  -- A label below the first doesn't change the value.
  at_turned : (k : ℕ) (b : Bool) (w : ℕ → Bool) (s : Shape T) → Above k s → IsOrdered s → at (turned k b w) s ≡ at w s
  at_turned k b w (one x) a o = refl
  at_turned k b w (fork j h l) a o =
      let d : (j == k) ≡ false = grind (arith, nat_tests) in
      let high : at (turned k b w) h ≡ at w h = at_turned k b w h (above_lower k j h a o.0) o.2 in
      let low : at (turned k b w) l ≡ at w l = at_turned k b w l (above_lower k j l a o.1) o.3 in
      rw (d, high, low) refl

  abbrev Alike : Shape T → Shape T → Type 0
  Alike f g = (w : ℕ → Bool) → at w f ≡ at w g

  -- After the label is shown or hidden, the value is that of the high or the low side.
  at_high : (k : ℕ) (w : ℕ → Bool) (h l : Shape T) → Above k h → IsOrdered h → at (turned k true w) (fork k h l) ≡ at w h
  at_high k w h l a o = rw (itself k) (at_turned k true w h a o)

  at_low : (k : ℕ) (w : ℕ → Bool) (h l : Shape T) → Above k l → IsOrdered l → at (turned k false w) (fork k h l) ≡ at w l
  at_low k w h l a o = rw (itself k) (at_turned k false w l a o)

  high_alike : (k : ℕ) (h l g : Shape T) → IsOrdered (fork k h l) → Above k g → IsOrdered g → Alike (fork k h l) g → Alike h g
  high_alike k h l g o a q alike w = sym (at_high k w h l o.0 o.2) ∙ alike (turned k true w) ∙ at_turned k true w g a q

  low_alike : (k : ℕ) (h l g : Shape T) → IsOrdered (fork k h l) → Above k g → IsOrdered g → Alike (fork k h l) g → Alike l g
  low_alike k h l g o a q alike w = sym (at_low k w h l o.1 o.3) ∙ alike (turned k false w) ∙ at_turned k false w g a q

  turn : (f g : Shape T) → Alike f g → Alike g f
  turn f g alike w = sym (alike w)

  -- A split with two sides that are equal to the same facet isn't ordered.
  no_split : (k : ℕ) (h l g : Shape T) → IsOrdered (fork k h l) → h ≡ g → l ≡ g → ⊥
  no_split k h l g o p q = o.4 (p ∙ sym q)

  high_both : (k j : ℕ) (a b h l : Shape T) → j ≡ k → IsOrdered (fork j a b) → IsOrdered (fork k h l) → Alike (fork j a b) (fork k h l) → Alike a h
  high_both k j a b h l e o q alike w =
      sym (at_high j w a b o.0 o.2) ∙ alike (turned j true w) ∙ ap (λ i. at (turned i true w) (fork k h l)) e ∙ at_high k w h l q.0 q.2

  low_both : (k j : ℕ) (a b h l : Shape T) → j ≡ k → IsOrdered (fork j a b) → IsOrdered (fork k h l) → Alike (fork j a b) (fork k h l) → Alike b l
  low_both k j a b h l e o q alike w =
      sym (at_low j w a b o.1 o.3) ∙ alike (turned j false w) ∙ ap (λ i. at (turned i false w) (fork k h l)) e ∙ at_low k w h l q.1 q.3

  pub same_shapes : (f g : Shape T) → IsOrdered f → IsOrdered g → Alike f g → f ≡ g
  same_shapes (one x) (one y) o q alike = ap one (alike (λ k. true))
  same_shapes (one x) (fork k h l) o q alike =
      let back : Alike (fork k h l) (one x) = turn (one x) (fork k h l) alike in
      absurd (no_split k h l (one x) q
      (sym (same_shapes (one x) h tt q.2 (turn h (one x) (high_alike k h l (one x) q tt tt back))))
      (sym (same_shapes (one x) l tt q.3 (turn l (one x) (low_alike k h l (one x) q tt tt back)))))
  same_shapes (fork j a b) (one y) o q alike =
      absurd (no_split j a b (one y) o
      (same_shapes a (one y) o.2 tt (high_alike j a b (one y) o tt tt alike))
      (same_shapes b (one y) o.3 tt (low_alike j a b (one y) o tt tt alike)))
  same_shapes (fork j a b) (fork k h l) o q alike =
      let back : Alike (fork k h l) (fork j a b) = turn (fork j a b) (fork k h l) alike in
      let high_first : j < k → a ≡ fork k h l = λ less. same_shapes a (fork k h l) o.2 q (high_alike j a b (fork k h l) o less q alike) in
      let low_first : j < k → b ≡ fork k h l = λ less. same_shapes b (fork k h l) o.3 q (low_alike j a b (fork k h l) o less q alike) in
      let high_second : k < j → fork j a b ≡ h = λ less. same_shapes (fork j a b) h o q.2 (turn h (fork j a b) (high_alike k h l (fork j a b) q less o back)) in
      let low_second : k < j → fork j a b ≡ l = λ less. same_shapes (fork j a b) l o q.3 (turn l (fork j a b) (low_alike k h l (fork j a b) q less o back)) in
      let high_third : j ≡ k → a ≡ h = λ e. same_shapes a h o.2 q.2 (high_both k j a b h l e o q alike) in
      let low_third : j ≡ k → b ≡ l = λ e. same_shapes b l o.3 q.3 (low_both k j a b h l e o q alike) in
      elim (cases_lt j k) [
        | inl less ↦ absurd (no_split j a b (fork k h l) o (high_first less) (low_first less))
        | inr no_less ↦ elim (cases_lt k j) [
          | inl more ↦ absurd (no_split k h l (fork j a b) q (sym (high_second more)) (sym (low_second more)))
          | inr no_more ↦
              (let label : j ≡ k = omega (arith, no_less, no_more) in
              let high : a ≡ h = high_third label in
              let low : b ≡ l = low_third label in
              λ i. fork (label i) (high i) (low i))
        ]
      ]
