-- Rows with ids that don't fall, and rows that replace others among them.
use Rattle.std.proofs.Common.{◌≡◌, ℕ, ◌+◌, ◌<◌, ◌≤◌, nat_lt, zero, suc, Bool, true, false, if◌then◌else◌, List, [], ◌∷◌, ◌++◌, length, take, drop, refl, sym, subst, ap, arith}
use Rattle.std.specs.List.{AllByRecursion, insert}
use Rattle.jac_rows.specs.Apart.{IsBefore}
use Rattle.jac_rows.specs.Good.{AreRising}
use Rattle.jac_rows.specs.declared.row.Row.{Row}
use Rattle.jac_keep.specs.Records.{AreOf, AreOrdered, are_in_order, with_id, before, behind, placed_rows}
use Rattle.jac_keep.proofs.SoundLaws.{all-with_id, all-append, all-mapped, less-before, greater-behind}

abbrev AreFrom : ℕ → List Row → Type 0
AreFrom k rows = AllByRecursion (λ (r : Row). k ≤ r.id) rows

from_less : (k id : ℕ) (rows : List Row) → k ≤ id → AreFrom id rows → AreFrom k rows
from_less k id rows h all = all-mapped (λ (r : Row). id ≤ r.id) (λ (r : Row). k ≤ r.id) rows (λ r e. omega (arith, h, e)) all

from-before : (x : Row) (xs : List Row) → IsBefore (λ (r : Row). r.id) (λ r. r.guard) x xs → AreFrom x.id xs
from-before x [] before = tt
from-before x (y ∷ ys) before = (before.0, from-before x ys before.2)

-- A table's rows are ordered.
pub ordered_if_rising : (rows : List Row) → AreRising rows → AreOrdered rows
ordered_if_rising [] rising = tt
ordered_if_rising (r ∷ rows) rising = (from-before r rows rising.0, ordered_if_rising rows rising.1)

-- The test for order.
not_less : (a b : ℕ) (x : Bool) → (if nat_lt a b then false else x) ≡ true → b ≤ a
not_less a b x e = grind (arith, e)

and_later : (a b : ℕ) (x : Bool) → (if nat_lt a b then false else x) ≡ true → x ≡ true
and_later a b x e = grind (arith, e)

from_test : (least : ℕ) (rows : List Row) → are_in_order least rows ≡ true → AreFrom least rows
from_test least [] e = tt
from_test least (r ∷ rows) e =
    let here : least ≤ r.id = not_less r.id least (are_in_order r.id rows) e in
    (here, from_less least r.id rows here (from_test r.id rows (and_later r.id least (are_in_order r.id rows) e)))

pub ordered_if_tested : (least : ℕ) (rows : List Row) → are_in_order least rows ≡ true → AreOrdered rows
ordered_if_tested least [] e = tt
ordered_if_tested least (r ∷ rows) e =
    let rest : are_in_order r.id rows ≡ true = and_later r.id least (are_in_order r.id rows) e in
    (from_test r.id rows rest, ordered_if_tested r.id rows rest)

ordered-if : (b : Bool) (r : Row) (rows : List Row) → AreFrom r.id rows → AreOrdered rows → AreOrdered (if b then r ∷ rows else rows)
ordered-if true r rows all rest = (all, rest)
ordered-if false r rows all rest = rest

pub ordered-with_id : (test : ℕ → Bool) (rows : List Row) → AreOrdered rows → AreOrdered (with_id test rows)
ordered-with_id test [] ordered = tt
ordered-with_id test (r ∷ rows) ordered =
    ordered-if (test r.id) r (with_id test rows) (all-with_id (λ (x : Row). r.id ≤ x.id) test rows ordered.0) (ordered-with_id test rows ordered.1)

-- Two lists together are ordered, if the ids of the first are at most a number, and those of the
-- second at least the number.
ordered-append : (k : ℕ) (xs ys : List Row) → AreOrdered xs → AreOrdered ys → AllByRecursion (λ (x : Row). x.id ≤ k) xs → AreFrom k ys → AreOrdered (xs ++ ys)
ordered-append k [] ys a b most least = b
ordered-append k (x ∷ xs) ys a b most least =
    let later : AreFrom x.id ys = all-mapped (λ (y : Row). k ≤ y.id) (λ (y : Row). x.id ≤ y.id) ys (λ y h. omega (arith, h, most.0)) least in
    (all-append (λ (y : Row). x.id ≤ y.id) xs ys a.0 later, ordered-append k xs ys a.1 b most.1 least)

least_of : (id : ℕ) (rows : List Row) → AreOf id rows → AreFrom id rows
least_of id [] own = tt
least_of id (r ∷ rows) own = (omega (arith, own.0), least_of id rows own.1)

most_of : (id : ℕ) (rows : List Row) → AreOf id rows → AllByRecursion (λ (r : Row). r.id ≤ id) rows
most_of id [] own = tt
most_of id (r ∷ rows) own = (omega (arith, own.0), most_of id rows own.1)

ordered_of : (id : ℕ) (rows : List Row) → AreOf id rows → AreOrdered rows
ordered_of id [] own = tt
ordered_of id (r ∷ rows) own = (from_less r.id id rows (omega (arith, own.0)) (least_of id rows own.1), ordered_of id rows own.1)

-- Rows stay ordered after alternatives of a record replace its old ones.
pub ordered-placed : (id : ℕ) (new rows : List Row) → AreOf id new → AreOrdered rows → AreOrdered (placed_rows id new rows)
ordered-placed id new rows own ordered =
    let low : AllByRecursion (λ (r : Row). r.id ≤ id) (before id rows) =
    all-mapped (λ (r : Row). r.id < id) (λ (r : Row). r.id ≤ id) (before id rows) (λ r e. omega (arith, e)) (less-before id rows) in
    let high : AreFrom id (behind id rows) =
    all-mapped (λ (r : Row). id + 1 ≤ r.id) (λ (r : Row). id ≤ r.id) (behind id rows) (λ r e. omega (arith, e)) (greater-behind id rows) in
    ordered-append id (before id rows ++ new) (behind id rows)
    (ordered-append id (before id rows) new (ordered-with_id (λ i. nat_lt i id) rows ordered) (ordered_of id new own) low (least_of id new own))
    (ordered-with_id (λ i. nat_lt id i) rows ordered)
    (all-append (λ (r : Row). r.id ≤ id) (before id rows) new low (most_of id new own))
    high

-- One row is inserted at a place.
pub insert-front : (at next : ℕ) (row : Row) (rows : List Row) → next ≡ suc at → at ≤ length rows → take next (insert rows at row) ≡ take at rows ++ row ∷ []
insert-front zero next row [] e h = rw e refl
insert-front (suc at) next row [] e h = absurd (omega (arith, h))
insert-front zero next row (r ∷ rows) e h = rw e refl
insert-front (suc at) next row (r ∷ rows) e h = rw e (ap (λ xs. r ∷ xs) (insert-front at (suc at) row rows refl (omega (arith, h))))

insert-behind : (at next : ℕ) (row : Row) (rows : List Row) → next ≡ suc at → at ≤ length rows → drop next (insert rows at row) ≡ drop at rows
insert-behind zero next row [] e h = rw e refl
insert-behind (suc at) next row [] e h = absurd (omega (arith, h))
insert-behind zero next row (r ∷ rows) e h = rw e refl
insert-behind (suc at) next row (r ∷ rows) e h = rw e (insert-behind at (suc at) row rows refl (omega (arith, h)))

pub insert-behind_end : (at end next : ℕ) (row : Row) (rows : List Row) → at ≡ end → next ≡ suc end → end ≤ length rows → drop next (insert rows at row) ≡ drop end rows
insert-behind_end at end next row rows same e h = subst (λ n. drop next (insert rows n row) ≡ drop end rows) (sym same) (insert-behind end next row rows e h)
