-- A number inserted into a rising list: the list shows it too, and still rises.
use Rattle.std.proofs.Common.{◌≡◌, ℕ, ◌<◌, ◌==◌, ◌||◌, Bool, true, false, if◌then◌else◌, nat_lt, List, [], ◌∷◌, refl, ap, ◌∙◌, inl, inr, suc, arith}
use Rattle.std.proofs.lemmas.Bool.Decides.{eqb_tells, leb_tells}
use Rattle.jac_world.specs.World.{shown_by, with_number, IsAscending, StartsAboveBy}

shown_later : (a b c : Bool) → (a || (b || c)) ≡ (b || (a || c))
shown_later true true c = refl
shown_later true false c = refl
shown_later false b c = refl

shown_twice : (a c : Bool) → (a || c) ≡ (a || (a || c))
shown_twice true c = refl
shown_twice false c = refl

-- The list shows the inserted number too.
pub shown-inserted : (k : ℕ) (xs : List ℕ) (j : ℕ) → shown_by (with_number k xs) j ≡ (k == j || shown_by xs j)
shown-inserted k [] j = refl
shown-inserted k (x ∷ xs) j =
    elim (nat_lt x k) as (λ b. shown_by (if b then x ∷ with_number k xs else (if x == k then x ∷ xs else k ∷ (x ∷ xs))) j ≡ (k == j || (x == j || shown_by xs j))) [
      | true ↦ ap (λ b. x == j || b) (shown-inserted k xs j) ∙ shown_later (x == j) (k == j) (shown_by xs j)
      | false ↦
          elim (eqb_tells x k) [
            | inl h ↦ rw h.0 (rw h.1 (shown_twice (k == j) (shown_by xs j)))
            | inr h ↦ rw h.0 refl
          ]
    ]

starts-inserted : (j k : ℕ) (xs : List ℕ) → j < k → StartsAboveBy (λ x. x) j xs
    → StartsAboveBy (λ x. x) j (with_number k xs)
starts-inserted j k [] lt s = lt
starts-inserted j k (x ∷ xs) lt s =
    elim (nat_lt x k) as (λ b. StartsAboveBy (λ (n : ℕ). n) j (if b then x ∷ with_number k xs else (if x == k then x ∷ xs else k ∷ (x ∷ xs)))) [
      | true ↦ s
      | false ↦ elim (x == k) as (λ b. StartsAboveBy (λ (n : ℕ). n) j (if b then x ∷ xs else k ∷ (x ∷ xs))) [ true ↦ s | false ↦ lt ]
    ]

pub ascending-inserted : (k : ℕ) (xs : List ℕ) → IsAscending xs → IsAscending (with_number k xs)
ascending-inserted k [] r = (tt, tt)
ascending-inserted k (x ∷ xs) r =
    elim (leb_tells (suc x) k) [
      | inl h ↦ rw h.0 (starts-inserted x k xs (omega arith) r.0, ascending-inserted k xs r.1)
      | inr h ↦
          rw h.0
          (elim (eqb_tells x k) [
            | inl e ↦ rw e.0 r
            | inr e ↦ rw e.0 ((omega arith), r)
          ])
    ]
