-- Rising lists, of which one has all numbers of the other.
use Rattle.std.proofs.Common.{◌≡◌, ◌∙◌, sym, refl, ap, arith, inl, inr, ℕ, ◌<◌, ◌≤◌, ◌==◌, ◌||◌, Bool, true, false, true≢false, List, [], ◌∷◌, length}
use Rattle.std.proofs.lemmas.Bool.{or_left, cases_lt}
use Rattle.std.proofs.lemmas.Bool.Decides.{nat_tests, Decides-eqb}
use Rattle.jac_world.specs.World.{shown_by, IsAscending, StartsAboveBy}
use Rattle.jac_shown_rows.specs.Consulted.{Grows}

itself : (x : ℕ) → (x == x) ≡ true
itself x = grind (arith, nat_tests)

pub or_none : (a m : Bool) → m ≡ false → a ≡ (a || m)
or_none true m none = refl
or_none false m none = sym none

-- A rising list with all numbers of another one isn't shorter. If it isn't longer either, the two
-- are equal.

above_too : (j k : ℕ) (xs : List ℕ) → j < k → StartsAboveBy (λ x. x) k xs → StartsAboveBy (λ x. x) j xs
above_too j k [] lt a = tt
above_too j k (x ∷ xs) lt a = omega (arith, lt, a)

hidden_below : (k : ℕ) (xs : List ℕ) → StartsAboveBy (λ x. x) k xs → IsAscending xs → shown_by xs k ≡ false
hidden_below k [] a r = refl
hidden_below k (x ∷ xs) a r =
    let other : (x == k) ≡ false = grind (arith, nat_tests) in
    rw other (hidden_below k xs (above_too k x xs a r.0) r.1)

first_shown : (x : ℕ) (xs : List ℕ) → shown_by (x ∷ xs) x ≡ true
first_shown x xs = or_left (x == x) (shown_by xs x) (itself x)

-- The numbers after the first one differ from it.
behind_if : (x k : ℕ) (xs : List ℕ) (b s : Bool) → (x == k) ≡ b → IsAscending (x ∷ xs) → shown_by xs k ≡ true → (b || s) ≡ true → s ≡ true
behind_if x k xs true s e a among h =
    let none : shown_by xs k ≡ false = ap (shown_by xs) (sym ((Decides-eqb x k).0 e)) ∙ hidden_below x xs a.0 a.1 in
    absurd (true≢false (sym among ∙ none))
behind_if x k xs false s e a among h = h

-- The first numbers are equal.
behind : (x y : ℕ) (xs ys : List ℕ) → x ≡ y → IsAscending (x ∷ xs) → Grows (x ∷ xs) (y ∷ ys) → Grows xs ys
behind x y xs ys same a grows = record {
  kept = λ k h. behind_if x k xs (x == k) (shown_by ys k) refl a h (ap (λ z. z == k || shown_by ys k) same ∙ grows.kept k (or_right (x == k) (shown_by xs k) h));
}
  where
    or_right : (a b : Bool) → b ≡ true → (a || b) ≡ true
    or_right true b p = refl
    or_right false b p = p

-- The first number of the second list isn't in the first list.
beside_if : (y k : ℕ) (xs : List ℕ) (b s : Bool) → (y == k) ≡ b → shown_by xs y ≡ false → shown_by xs k ≡ true → (b || s) ≡ true → s ≡ true
beside_if y k xs true s e none among h = absurd (true≢false (sym among ∙ ap (shown_by xs) (sym ((Decides-eqb y k).0 e)) ∙ none))
beside_if y k xs false s e none among h = h

beside : (y : ℕ) (xs ys : List ℕ) → shown_by xs y ≡ false → Grows xs (y ∷ ys) → Grows xs ys
beside y xs ys none grows = record { kept = λ k h. beside_if y k xs (y == k) (shown_by ys k) refl none h (grows.kept k h) }

-- The second list is longer, or the two are equal.
pub record IsLonger (xs ys : List ℕ) : Type 0 where
  pub longer : length xs ≤ length ys
  pub same : length ys ≤ length xs → xs ≡ ys

longer_both : (x y : ℕ) (xs ys : List ℕ) → x ≡ y → IsLonger xs ys → IsLonger (x ∷ xs) (y ∷ ys)
longer_both x y xs ys e rest = record {
  longer = omega (arith, rest.longer);
  same = λ le. (let tails : xs ≡ ys = rest.same (omega (arith, le)) in λ i. e i ∷ tails i);
}

longer_behind : (y : ℕ) (xs ys : List ℕ) → IsLonger xs ys → IsLonger xs (y ∷ ys)
longer_behind y xs ys rest = record {
  longer = omega (arith, rest.longer);
  same = λ le. absurd (omega (arith, le, rest.longer));
}

pub grown_longer : (xs ys : List ℕ) → IsAscending xs → IsAscending ys → Grows xs ys → IsLonger xs ys
grown_longer [] [] a b grows = record { longer = omega arith; same = λ le. refl }
grown_longer [] (y ∷ ys) a b grows = record { longer = omega arith; same = λ le. absurd (omega (arith, le)) }
grown_longer (x ∷ xs) [] a b grows = absurd (true≢false (sym (grows.kept x (first_shown x xs))))
grown_longer (x ∷ xs) (y ∷ ys) a b grows =
    elim (cases_lt x y) [
      | inl lt ↦ absurd (true≢false (sym (grows.kept x (first_shown x xs)) ∙ hidden_below x (y ∷ ys) lt b))
      | inr le ↦
          elim (cases_lt y x) [
            | inl lt ↦ longer_behind y (x ∷ xs) ys (grown_longer (x ∷ xs) ys a b.1 (beside y (x ∷ xs) ys (hidden_below y (x ∷ xs) lt a) grows))
            | inr ge ↦ (let same : x ≡ y = omega (arith, le, ge) in longer_both x y xs ys same (grown_longer xs ys a.1 b.1 (behind x y xs ys same a grows)))
          ]
    ]
