-- If one more label is shown, fewer labels are hidden.
use Rattle.std.proofs.Common.{◌≡◌, ◌<◌, ◌≤◌, ◌+◌, ◌==◌, ◌||◌, ℕ, Bool, true, false, if◌then◌else◌, List, [], ◌∷◌, ap, sym, refl, ◌∙◌, arith}
use Rattle.std.proofs.lemmas.Bool.Decides.{nat_tests, Decides-eqb}
use Rattle.jac_world.specs.World.{shown_by}
use Rattle.jac_plain.specs.Policies.{with_label}
use Rattle.jac_resolve.specs.Rounds.{hidden_count}

pub same_test : (a b : ℕ) → (a == b) ≡ (b == a)
same_test a b = grind (arith, nat_tests)

pub itself : (x : ℕ) → (x == x) ≡ true
itself x = grind (arith, nat_tests)

not_more_if : (a b : Bool) (m n : ℕ) → m ≤ n → (if (a || b) then 0 else 1) + m ≤ (if b then 0 else 1) + n
not_more_if true true m n h = omega arith
not_more_if true false m n h = omega arith
not_more_if false true m n h = omega arith
not_more_if false false m n h = omega arith

pub not_more : (k : ℕ) (v w : ℕ → Bool) → ((j : ℕ) → w j ≡ with_label k v j) → (xs : List ℕ) → hidden_count w xs ≤ hidden_count v xs
not_more k v w h [] = omega arith
not_more k v w h (x ∷ xs) = rw (h x) (not_more_if (k == x) (v x) (hidden_count w xs) (hidden_count v xs) (not_more k v w h xs))

fewer_if : (same rest b : Bool) (m n : ℕ) → m ≤ n → (same ≡ true → b ≡ false) → (rest ≡ true → m < n) → (same || rest) ≡ true → (if (same || b) then 0 else 1) + m < (if b then 0 else 1) + n
fewer_if true rest true m n h there later s = absurd (let e : true ≡ false = there refl in cc)
fewer_if true rest false m n h there later s = omega arith
fewer_if false rest true m n h there later s = let lt : m < n = later s in omega arith
fewer_if false rest false m n h there later s = let lt : m < n = later s in omega arith

pub fewer : (k : ℕ) (v w : ℕ → Bool) → v k ≡ false → ((j : ℕ) → w j ≡ with_label k v j) → (xs : List ℕ) → shown_by xs k ≡ true → hidden_count w xs < hidden_count v xs
fewer k v w hidden h [] s = absurd cc
fewer k v w hidden h (x ∷ xs) s =
    rw (h x)
    (fewer_if (k == x) (shown_by xs k) (v x) (hidden_count w xs) (hidden_count v xs) (not_more k v w h xs)
    (λ e. ap v (sym ((Decides-eqb k x).0 e)) ∙ hidden)
    (fewer k v w hidden h xs)
    (rw (same_test k x) s))
