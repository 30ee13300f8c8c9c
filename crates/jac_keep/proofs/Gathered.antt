-- The rows of rising ids, record by record.
use Rattle.std.proofs.Common.{◌≡◌, ◌∙◌, refl, sym, ap, ℕ, ◌<◌, ◌≤◌, ◌==◌, Bool, true, false, ◌||◌, if◌then◌else◌, List, [], ◌∷◌, ◌++◌, arith}
use Rattle.std.specs.List.{AllByRecursion}
use Rattle.std.proofs.lemmas.Bool.Decides.{nat_tests, Decides-eqb}
use Rattle.jac_world.specs.World.{shown_by, IsAscending}
use Rattle.jac_rows.specs.declared.row.Row.{Row}
use Rattle.jac_keep.specs.Records.{with_id, alternatives, AreOrdered}
use Rattle.jac_keep.proofs.PlacingLaws.{with_id-none, with_id-like}

abbrev pub gathered : List ℕ → List Row → List Row
gathered [] rows = []
gathered (id ∷ ids) rows = alternatives id rows ++ gathered ids rows

none_later : (p : ℕ → Bool) (k : ℕ) (rows : List Row) → AllByRecursion (λ (x : Row). k ≤ x.id) rows → ((i : ℕ) → k ≤ i → p i ≡ false) → with_id p rows ≡ []
none_later p k [] all h = refl
none_later p k (r ∷ rows) all h = rw (h r.id all.0) (none_later p k rows all.1 h)

unless : (b : Bool) → (b ≡ true → true ≡ false) → b ≡ false
unless true h = h refl
unless false h = refl

-- The rows that pass one of two tests, if each id that passes the first is less than each that
-- passes the second.
joined_if : (p q : ℕ → Bool) (r : Row) (rows : List Row) (a b : Bool) → p r.id ≡ a → q r.id ≡ b → AllByRecursion (λ (x : Row). r.id ≤ x.id) rows
    → ((i j : ℕ) → p i ≡ true → q j ≡ true → i < j) → with_id p rows ++ with_id q rows ≡ with_id (λ i. p i || q i) rows
    → (if a then r ∷ with_id p rows else with_id p rows) ++ (if b then r ∷ with_id q rows else with_id q rows) ≡ (if a || b then r ∷ with_id (λ i. p i || q i) rows else with_id (λ i. p i || q i) rows)
joined_if p q r rows true true e f all apart ih = (let no : r.id < r.id = apart r.id r.id e f in absurd (omega (arith, no)))
joined_if p q r rows true false e f all apart ih = ap (λ l. r ∷ l) ih
joined_if p q r rows false true e f all apart ih =
    let none : with_id p rows ≡ [] = none_later p r.id rows all (λ i least. unless (p i) (λ t. let no : i < r.id = apart i r.id t f in absurd (omega (arith, no, least)))) in
    ap (λ l. l ++ (r ∷ with_id q rows)) none ∙ ap (λ l. r ∷ (l ++ with_id q rows)) (sym none) ∙ ap (λ l. r ∷ l) ih
joined_if p q r rows false false e f all apart ih = ih

pub joined : (p q : ℕ → Bool) (rows : List Row) → AreOrdered rows → ((i j : ℕ) → p i ≡ true → q j ≡ true → i < j) → with_id p rows ++ with_id q rows ≡ with_id (λ i. p i || q i) rows
joined p q [] ordered apart = refl
joined p q (r ∷ rows) ordered apart = joined_if p q r rows (p r.id) (q r.id) refl refl ordered.0 apart (joined p q rows ordered.1 apart)

later_if : (k x j : ℕ) (xs : List ℕ) (b : Bool) → (x == j) ≡ b → k < x → (shown_by xs j ≡ true → k < j) → (b || shown_by xs j) ≡ true → k < j
later_if k x j xs true e less ih s = let same : x ≡ j = (Decides-eqb x j).0 e in omega (arith, less, same)
later_if k x j xs false e less ih s = ih s

later : (k : ℕ) (ks : List ℕ) → IsAscending (k ∷ ks) → (j : ℕ) → shown_by ks j ≡ true → k < j
later k [] up j s = cc
later k (x ∷ xs) up j s = later_if k x j xs (x == j) refl up.0 (λ t. let l : x < j = later x xs up.1 j t in omega (arith, l, up.0)) s

turned : (a b : ℕ) → (a == b) ≡ (b == a)
turned a b = grind (arith, nat_tests)

pub each_own : (ids : List ℕ) (rows : List Row) → IsAscending ids → AreOrdered rows → gathered ids rows ≡ with_id (shown_by ids) rows
each_own [] rows up ordered = sym (with_id-none (shown_by []) rows (λ i. refl))
each_own (k ∷ ks) rows up ordered =
    ap (λ l. alternatives k rows ++ l) (each_own ks rows up.1 ordered)
    ∙ joined (λ i. i == k) (shown_by ks) rows ordered (λ i j e s. let same : i ≡ k = (Decides-eqb i k).0 e in let l : k < j = later k ks up j s in omega (arith, same, l))
    ∙ with_id-like (λ i. (i == k) || shown_by ks i) (shown_by (k ∷ ks)) rows (λ i. ap (λ b. b || shown_by ks i) (turned i k))
