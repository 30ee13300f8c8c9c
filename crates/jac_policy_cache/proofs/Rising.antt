-- Numbers in rising order, without duplicates.
use Rattle.std.proofs.Common.{◌≡◌, ◌==◌, ◌||◌, ℕ, Bool, true, false, List, [], ◌∷◌, refl, ap, sym, ◌∙◌, arith}
use Rattle.std.specs.List.{list_any, Contains, dedup}
use Rattle.std.specs.List.Sorted.{IsStrictlySortedBy, IsPermutation, IsSorted}
use Rattle.std.specs.Ordering.{nat_cmp}
use Rattle.std.proofs.lemmas.Bool.Decides.{nat_tests, Decides-eqb}
use Rattle.std.proofs.lemmas.List.Kept.{Contains-dedup_nat, Contains-from_dedup}
use Rattle.std.proofs.lemmas.List.Sorted.{Contains-permutation, IsPermutation-sym}
use Rattle.std.proofs.lemmas.Map.Keys.{IsStrictlyIncreasing-dedup, sorted_from_strictly_increasing, below_from_sorted, sorted_tail}
use Rattle.std.proofs.lemmas.Map.Views.{Contains-from_any, list_any-from_Contains}
use Rattle.std.proofs.lemmas.Cmp.{nat_eq_equiv}
use Rattle.jac_world.specs.World.{shown_by, IsAscending}

pub ascending : (xs : List ℕ) → IsStrictlySortedBy nat_cmp xs → IsAscending xs
ascending [] s = tt
ascending (x ∷ []) s = (tt, tt)
ascending (x ∷ (y ∷ xs)) s = (below_from_sorted (x ∷ (y ∷ xs)) 0 1 0 s (omega arith) (omega arith), ascending (y ∷ xs) (sorted_tail nat_cmp x (y ∷ xs) s))

same_test : (a b : ℕ) → (a == b) ≡ (b == a)
same_test a b = grind (arith, nat_tests)

flip : (xs : List ℕ) (k : ℕ) → shown_by xs k ≡ list_any (λ x. k == x) xs
flip [] k = refl
flip (x ∷ xs) k = rw (same_test x k) (ap (λ b. (k == x) || b) (flip xs k))

pub bool_eq : (a b : Bool) → (a ≡ true → b ≡ true) → (b ≡ true → a ≡ true) → a ≡ b
bool_eq true b p q = sym (p refl)
bool_eq false true p q = q refl
bool_eq false false p q = refl

found : (xs : List ℕ) (k : ℕ) → shown_by xs k ≡ true → Contains xs k
found xs k s = Contains-from_any (λ x y e. (Decides-eqb x y).0 e) k xs (sym (flip xs k) ∙ s)

shown_if_found : (xs : List ℕ) (k : ℕ) → Contains xs k → shown_by xs k ≡ true
shown_if_found xs k h = flip xs k ∙ list_any-from_Contains nat_eq_equiv k xs h

pub ascending_if_sorted : (xs ys : List ℕ) → IsSorted nat_cmp xs → ys ≡ dedup ◌==◌ xs → IsAscending ys
ascending_if_sorted xs ys s is = rw is (ascending (dedup ◌==◌ xs) (sorted_from_strictly_increasing (dedup ◌==◌ xs) (IsStrictlyIncreasing-dedup xs s)))

pub same_if_sorted : (from xs ys : List ℕ) → IsPermutation from xs → ys ≡ dedup ◌==◌ xs → (k : ℕ) → shown_by ys k ≡ shown_by from k
same_if_sorted from xs ys moved is k = rw is (bool_eq _ _
    (λ s. shown_if_found from k (Contains-permutation xs from k (IsPermutation-sym from xs moved) (Contains-from_dedup ◌==◌ xs k (found (dedup ◌==◌ xs) k s))))
    (λ s. shown_if_found (dedup ◌==◌ xs) k (Contains-dedup_nat xs k (Contains-permutation from xs k moved (found from k s)))))
