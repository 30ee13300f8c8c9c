-- Alterations in another order, and put among others.
use Rattle.std.proofs.Common.{◌≡◌, refl, subst, arith, zero, suc, ℕ, ◌==◌, ◌||◌, nat_lt, Bool, true, false, if◌then◌else◌, List, [], ◌∷◌, All}
use Rattle.std.specs.List.{AllByRecursion, Contains}
use Rattle.std.specs.List.Sorted.{IsPermutation}
use Rattle.std.proofs.lemmas.List.Elements.{All-contains_itself, All-from_recursion, recursion_from_All}
use Rattle.std.proofs.lemmas.List.Sorted.{All-permutation, Contains-permutation, IsPermutation-sym}
use Rattle.std.proofs.lemmas.Bool.{eqb-true, or_left, or_right}
use Rattle.jac_rows.specs.declared.row.Row.{Row}
use Rattle.jac_keep.specs.Alterations.{with_alteration}
use Rattle.jac_keep.specs.Records.{AreOf}
use Rattle.jac_keep.specs.declared.alteration.Alteration.{Alteration}
use Rattle.jac_upgrade.specs.Steps.{IsOwnAlteration, is_changed}
use Rattle.jac_upgrade.proofs.Walking.{all_mapped, same_id, there_if}

abbrev pub Other : ℕ → Alteration → Type 0
Other id a = (a.id == id) ≡ false

none_if : (b c : Bool) → (if b then true else c) ≡ false → (b ≡ false) × (c ≡ false)
none_if true c h = cc
none_if false c h = (refl, h)

none_changed : (id : ℕ) (xs : List Alteration) → is_changed id xs ≡ false → AllByRecursion (Other id) xs
none_changed id [] h = tt
none_changed id (a ∷ xs) h = let parts = none_if (a.id == id) (is_changed id xs) h in (parts.0, none_changed id xs parts.1)

changed_none : (id : ℕ) (xs : List Alteration) → AllByRecursion (Other id) xs → is_changed id xs ≡ false
changed_none id [] all = refl
changed_none id (a ∷ xs) all = rw all.0 (changed_none id xs all.1)

true_unless : (b : Bool) → (b ≡ false → ⊥) → b ≡ true
true_unless true h = refl
true_unless false h = absurd (h refl)

true_false : (b : Bool) → b ≡ true → b ≡ false → ⊥
true_false true h k = cc
true_false false h k = cc

-- Alterations in another order name the same records.
pub changed_permuted : (id : ℕ) (xs ys : List Alteration) → IsPermutation xs ys → is_changed id xs ≡ true → is_changed id ys ≡ true
changed_permuted id xs ys permuted h =
    true_unless (is_changed id ys) (λ none. true_false (is_changed id xs) h
    (changed_none id xs (recursion_from_All (Other id) xs
    (All-permutation (Other id) ys xs (IsPermutation-sym xs ys permuted) (All-from_recursion (Other id) ys (none_changed id ys none))))))

pub own_permuted : (xs ys : List Alteration) → IsPermutation xs ys → AllByRecursion IsOwnAlteration xs → AllByRecursion IsOwnAlteration ys
own_permuted xs ys permuted own = recursion_from_All IsOwnAlteration ys (All-permutation IsOwnAlteration xs ys permuted (All-from_recursion IsOwnAlteration xs own))

pub within_permuted : (xs ys zs : List Alteration) → IsPermutation xs ys → AllByRecursion (Contains ys) zs → AllByRecursion (Contains xs) zs
within_permuted xs ys zs permuted all =
    all_mapped (Contains ys) (Contains xs) zs (λ a h. Contains-permutation ys xs a (IsPermutation-sym xs ys permuted) h) all

pub within_itself : (xs : List Alteration) → AllByRecursion (Contains xs) xs
within_itself xs = recursion_from_All (Contains xs) xs (All-contains_itself xs)

pub all_of : (id : ℕ) (rows : List Row) → AreOf id rows → All (λ (r : Row). r.id ≡ id) rows
all_of id [] own k d h = absurd (omega (arith, h))
all_of id (r ∷ rows) own zero d h = own.0
all_of id (r ∷ rows) own (suc k) d h = all_of id rows own.1 k d (omega (arith, h))

abbrev placed : ℕ → List Row → Alteration
placed id rows = record { id = id; rows = rows }

abbrev step : ℕ → List Row → Alteration → List Alteration → List Alteration → Bool → Bool → List Alteration
step id rows a rest more less same = if less then a ∷ more else (if same then placed id rows ∷ rest else placed id rows ∷ a ∷ rest)

all_step : (P : Alteration → Type 0) (id : ℕ) (rows : List Row) (a : Alteration) (rest more : List Alteration) (less same : Bool) → P (placed id rows) → AllByRecursion P (a ∷ rest) → AllByRecursion P more
    → AllByRecursion P (step id rows a rest more less same)
all_step P id rows a rest more true same p all later = (all.0, later)
all_step P id rows a rest more false true p all later = (p, all.1)
all_step P id rows a rest more false false p all later = (p, all)

-- A property of the alteration that is put and of the others holds for all.
pub all_renamed : (P : Alteration → Type 0) (id : ℕ) (rows : List Row) (xs : List Alteration) → P (placed id rows) → AllByRecursion P xs → AllByRecursion P (with_alteration id rows xs)
all_renamed P id rows [] p all = (p, tt)
all_renamed P id rows (a ∷ rest) p all =
    all_step P id rows a rest (with_alteration id rows rest) (nat_lt a.id id) (a.id == id) p all (all_renamed P id rows rest p all.1)

here_step : (id : ℕ) (rows : List Row) (a : Alteration) (rest more : List Alteration) (less same : Bool) → is_changed id more ≡ true → is_changed id (step id rows a rest more less same) ≡ true
here_step id rows a rest more true same h = there_if (a.id == id) (is_changed id more) h
here_step id rows a rest more false true h = rw (same_id id) refl
here_step id rows a rest more false false h = rw (same_id id) refl

pub changed_here : (id : ℕ) (rows : List Row) (xs : List Alteration) → is_changed id (with_alteration id rows xs) ≡ true
changed_here id rows [] = rw (same_id id) refl
changed_here id rows (a ∷ rest) = here_step id rows a rest (with_alteration id rows rest) (nat_lt a.id id) (a.id == id) (changed_here id rows rest)

later_if : (b c d : Bool) → (c ≡ true → d ≡ true) → (if b then true else c) ≡ true → (if b then true else d) ≡ true
later_if true c d f h = refl
later_if false c d f h = f h

kept_step : (k id : ℕ) (rows : List Row) (a : Alteration) (rest more : List Alteration) (less same : Bool) → (a.id == id) ≡ same → (is_changed k rest ≡ true → is_changed k more ≡ true)
    → is_changed k (a ∷ rest) ≡ true → is_changed k (step id rows a rest more less same) ≡ true
kept_step k id rows a rest more true same e f h = later_if (a.id == k) (is_changed k rest) (is_changed k more) f h
kept_step k id rows a rest more false true e f h = subst (λ i. (if i == k then true else is_changed k rest) ≡ true) (eqb-true a.id id e) h
kept_step k id rows a rest more false false e f h = there_if (id == k) (is_changed k (a ∷ rest)) h

pub changed_kept : (k id : ℕ) (rows : List Row) (xs : List Alteration) → is_changed k xs ≡ true → is_changed k (with_alteration id rows xs) ≡ true
changed_kept k id rows [] h = cc
changed_kept k id rows (a ∷ rest) h =
    kept_step k id rows a rest (with_alteration id rows rest) (nat_lt a.id id) (a.id == id) refl (λ later. changed_kept k id rows rest later) h

-- One alteration is put among those before it.
moved_if : (i k : ℕ) (b : Bool) (before after left : Bool) → (i == k) ≡ b → (b ≡ true → after ≡ true) → (before ≡ true → after ≡ true) → (before || (if b then true else left)) ≡ true → (after || left) ≡ true
moved_if i k true before after left e here kept h = or_left after left (here refl)
moved_if i k false true after left e here kept h = or_left after left (kept refl)
moved_if i k false false after left e here kept h = or_right after left h

pub named_put : (k id : ℕ) (rows : List Row) (changed left : List Alteration) → (is_changed k changed || is_changed k (placed id rows ∷ left)) ≡ true
    → (is_changed k (with_alteration id rows changed) || is_changed k left) ≡ true
named_put k id rows changed left h =
    moved_if id k (id == k) (is_changed k changed) (is_changed k (with_alteration id rows changed)) (is_changed k left) refl
    (λ same. (let e : id ≡ k = eqb-true id k same in subst (λ i. is_changed i (with_alteration id rows changed) ≡ true) e (changed_here id rows changed)))
    (λ before. changed_kept k id rows changed before) h
