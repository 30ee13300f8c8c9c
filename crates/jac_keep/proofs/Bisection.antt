-- What a bisection by rising id finds.
use Rattle.std.proofs.Common.{◌≡◌, ◌≢◌, ℕ, ◌<◌, ◌≤◌, Bool, true, false, not, ◌&&◌, ◌==◌, nat_lt, nat_le, zero, suc, List, [], ◌∷◌, ◌++◌, length, get_or, set, take, drop, drop-cons, Some, None, refl, sym, ◌∙◌, ap, arith}
use Rattle.std.proofs.lemmas.List.{get_or_default}
use Rattle.std.specs.List.{AllByRecursion, AllWithin}
use Rattle.std.specs.List.Sorted.{IsNonDecreasingBy, IsPartitionPoint}
use Rattle.std.proofs.lemmas.Bool.{ltb-true}
use Rattle.jac_rows.specs.declared.row.Row.{Row}
use Rattle.jac_keep.specs.declared.alteration.Alteration.{Alteration}
use Rattle.jac_keep.specs.Records.{AreOrdered, with_id, alternatives, behind}
use Rattle.jac_keep.specs.Alterations.{alternatives_named, with_alteration}
use Rattle.jac_keep.proofs.PlacingLaws.{with_id-with_id, with_id-like}
use Rattle.jac_keep.proofs.AlteringLaws.{Rises, Above, above-less, renamed-less, renamed-more, renamed-at, named-above}

all-at : (k : ℕ) (xs : List Row) → AllByRecursion (λ (x : Row). k ≤ x.id) xs → (j : ℕ) (d : Row) → j < length xs → k ≤ (get_or xs j d).id
all-at k [] all j d less = absurd (omega (arith, less))
all-at k (x ∷ xs) all zero d less = all.0
all-at k (x ∷ xs) all (suc j) d less = all-at k xs all.1 j d (omega (arith, less))

-- If the ids don't fall from row to row, they don't fall between any two places.
pub rows_rise : (rows : List Row) → AreOrdered rows → IsNonDecreasingBy (λ (r : Row). r.id) rows
rows_rise [] ordered i j d order less = absurd (omega (arith, less))
rows_rise (x ∷ xs) ordered zero zero d order less = omega arith
rows_rise (x ∷ xs) ordered zero (suc j) d order less = all-at x.id xs ordered.0 j d (omega (arith, less))
rows_rise (x ∷ xs) ordered (suc i) zero d order less = absurd (omega (arith, order))
rows_rise (x ∷ xs) ordered (suc i) (suc j) d order less = rows_rise xs ordered.1 i j d (omega (arith, order)) (omega (arith, less))

-- The rows before the place pass the test, and the others fail it.
abbrev pub IsPoint : (ℕ → Bool) → List Row → ℕ → Type 0
IsPoint p rows i = IsPartitionPoint (λ (r : Row). p r.id ≡ true) (λ r. p r.id ≡ false) rows i

all_fail : (p : ℕ → Bool) (rows : List Row) → AllWithin (λ (r : Row). p r.id ≡ false) rows 0 (length rows) → with_id p rows ≡ []
all_fail p [] fail = refl
all_fail p (r ∷ rows) fail =
    let here : p r.id ≡ false = fail 0 r (omega arith) (omega arith) in
    rw here (all_fail p rows (λ k d low high. fail (suc k) d (omega arith) (omega (arith, high))))

all_stay : (p : ℕ → Bool) (rows : List Row) → AllWithin (λ (r : Row). p r.id ≡ false) rows 0 (length rows) → with_id (λ i. not (p i)) rows ≡ rows
all_stay p [] fail = refl
all_stay p (r ∷ rows) fail =
    let here : p r.id ≡ false = fail 0 r (omega arith) (omega arith) in
    rw here (ap (λ xs. r ∷ xs) (all_stay p rows (λ k d low high. fail (suc k) d (omega arith) (omega (arith, high)))))

next_point : (p : ℕ → Bool) (r : Row) (rows : List Row) (i : ℕ) → IsPoint p (r ∷ rows) (suc i) → IsPoint p rows i
next_point p r rows i point = (
  λ k d low high. point.0 (suc k) d (omega arith) (omega (arith, high)),
  λ k d low high. point.1 (suc k) d (omega (arith, low)) (omega (arith, high)),
)

-- The rows before the place are those that pass the test, and the others those that fail it.
pub taken : (p : ℕ → Bool) (rows : List Row) (i : ℕ) → IsPoint p rows i → take i rows ≡ with_id p rows
taken p [] zero point = refl
taken p [] (suc i) point = refl
taken p (r ∷ rows) zero point = sym (all_fail p (r ∷ rows) point.1)
taken p (r ∷ rows) (suc i) point =
    let here : p r.id ≡ true = point.0 0 r (omega arith) (omega arith) in
    rw here (ap (λ xs. r ∷ xs) (taken p rows i (next_point p r rows i point)))

pub left : (p : ℕ → Bool) (rows : List Row) (i : ℕ) → IsPoint p rows i → drop i rows ≡ with_id (λ k. not (p k)) rows
left p [] zero point = refl
left p [] (suc i) point = refl
left p (r ∷ rows) zero point = sym (all_stay p (r ∷ rows) point.1)
left p (r ∷ rows) (suc i) point =
    let here : p r.id ≡ true = point.0 0 r (omega arith) (omega arith) in
    rw here (left p rows i (next_point p r rows i point))

neither_less : (id i : ℕ) → (not (nat_lt i id) && nat_le i id) ≡ (i == id)
neither_less id i = grind arith

greater : (id i : ℕ) → (not (nat_lt i id) && not (nat_le i id)) ≡ nat_lt id i
greater id i = grind arith

-- The alternatives of a record are the rows with an id that is neither less nor greater.
pub own_through : (id : ℕ) (rows : List Row) → with_id (λ i. nat_le i id) (with_id (λ i. not (nat_lt i id)) rows) ≡ alternatives id rows
own_through id rows =
    with_id-with_id (λ i. nat_le i id) (λ i. not (nat_lt i id)) rows
    ∙ with_id-like (λ i. not (nat_lt i id) && nat_le i id) (λ i. i == id) rows (neither_less id)

pub behind_through : (id : ℕ) (rows : List Row) → with_id (λ i. not (nat_le i id)) (with_id (λ i. not (nat_lt i id)) rows) ≡ behind id rows
behind_through id rows =
    with_id-with_id (λ i. not (nat_le i id)) (λ i. not (nat_lt i id)) rows
    ∙ with_id-like (λ i. not (nat_lt i id) && not (nat_le i id)) (λ i. nat_lt id i) rows (greater id)

above-at : (k : ℕ) (rest : List Alteration) → Above k rest → Rises rest → (j : ℕ) (d : Alteration) → j < length rest → k ≤ (get_or rest j d).id
above-at k [] above rises j d less = absurd (omega (arith, less))
above-at k (a ∷ rest) above rises zero d less = omega (arith, above)
above-at k (a ∷ rest) above rises (suc j) d less = above-at k rest (above-less k a.id rest above rises.0) rises.1 j d (omega (arith, less))

-- The ids of alterations don't fall.
pub names_rise : (items : List Alteration) → Rises items → IsNonDecreasingBy (λ (a : Alteration). a.id) items
names_rise [] rises i j d order less = absurd (omega (arith, less))
names_rise (a ∷ items) rises zero zero d order less = omega arith
names_rise (a ∷ items) rises zero (suc j) d order less = above-at a.id items rises.0 rises.1 j d (omega (arith, less))
names_rise (a ∷ items) rises (suc i) zero d order less = absurd (omega (arith, order))
names_rise (a ∷ items) rises (suc i) (suc j) d order less = names_rise items rises.1 i j d (omega (arith, order)) (omega (arith, less))

-- The alterations before the place have lesser ids, and the others don't.
abbrev pub IsNamePoint : ℕ → List Alteration → ℕ → Type 0
IsNamePoint id items at = IsPartitionPoint (λ (a : Alteration). nat_lt a.id id ≡ true) (λ a. nat_lt a.id id ≡ false) items at

next_name_point : (id : ℕ) (a : Alteration) (items : List Alteration) (at : ℕ) → IsNamePoint id (a ∷ items) (suc at) → IsNamePoint id items at
next_name_point id a items at point = (
  λ k d low high. point.0 (suc k) d (omega arith) (omega (arith, high)),
  λ k d low high. point.1 (suc k) d (omega (arith, low)) (omega (arith, high)),
)

-- One more alteration is inserted after those with lesser ids.
renamed_past : (id : ℕ) (new : List Row) (items : List Alteration) (at : ℕ) → IsNamePoint id items at → with_alteration id new items ≡ take at items ++ with_alteration id new (drop at items)
renamed_past id new [] zero point = refl
renamed_past id new [] (suc at) point = refl
renamed_past id new (a ∷ items) zero point = refl
renamed_past id new (a ∷ items) (suc at) point =
    renamed-less id new a items (ltb-true a.id id (point.0 0 a (omega arith) (omega arith)))
    ∙ ap (λ xs. a ∷ xs) (renamed_past id new items at (next_name_point id a items at point))

named_skip : (id : ℕ) (a : Alteration) (items : List Alteration) → nat_lt a.id id ≡ true → alternatives_named id (a ∷ items) ≡ alternatives_named id items
named_skip id a items e = grind (arith, e)

named_past : (id : ℕ) (items : List Alteration) (at : ℕ) → IsNamePoint id items at → alternatives_named id items ≡ alternatives_named id (drop at items)
named_past id [] zero point = refl
named_past id [] (suc at) point = refl
named_past id (a ∷ items) zero point = refl
named_past id (a ∷ items) (suc at) point =
    named_skip id a items (point.0 0 a (omega arith) (omega arith))
    ∙ named_past id items at (next_name_point id a items at point)

-- The alteration at the place, if there is one.
from_place : (items : List Alteration) (at : ℕ) (a : Alteration) → at < length items → a ≡ get_or items at a → drop at items ≡ a ∷ drop (suc at) items
from_place items at a h is = drop-cons items at a h ∙ ap (λ x. x ∷ drop (suc at) items) (sym is)

pub rises-drop : (items : List Alteration) (at : ℕ) → Rises items → Rises (drop at items)
rises-drop [] zero rises = tt
rises-drop [] (suc at) rises = tt
rises-drop (a ∷ items) zero rises = rises
rises-drop (a ∷ items) (suc at) rises = rises-drop items at rises.1

-- If the record is altered already, its alteration is at the place.
pub renamed_at : (id : ℕ) (new : List Row) (items : List Alteration) (at : ℕ) (a : Alteration) → at < length items → a ≡ get_or items at a → a.id ≡ id → IsNamePoint id items at
    → with_alteration id new items ≡ set items at (record { id = id; rows = new })
renamed_at id new items at a h is same point = renamed-at id new items at a h is same (renamed_past id new items at point)

named_here : (id : ℕ) (a : Alteration) (items : List Alteration) → a.id ≡ id → alternatives_named id (a ∷ items) ≡ Some a.rows
named_here id a items same = grind (arith, same)

pub named_at : (id : ℕ) (items : List Alteration) (at : ℕ) (a d : Alteration) → at < length items → a ≡ get_or items at a → a.id ≡ id → IsNamePoint id items at → alternatives_named id items ≡ Some (get_or items at d).rows
named_at id items at a d h is same point =
    named_past id items at point ∙ ap (alternatives_named id) (from_place items at a h is) ∙ named_here id a (drop (suc at) items) same ∙ ap (λ x. Some x.rows) (is ∙ get_or_default items at a d h)

greater_of_test : (a b : ℕ) → nat_lt a b ≡ false → a ≢ b → b < a
greater_of_test a b e other = grind (arith, e, other)

-- If another record's alteration is at the place, it has a greater id.
greater_at : (id : ℕ) (items : List Alteration) (at : ℕ) (a : Alteration) → at < length items → a ≡ get_or items at a → a.id ≢ id → IsNamePoint id items at → id < a.id
greater_at id items at a h is other point =
    let e : nat_lt a.id id ≡ false = rw is (point.1 at a (omega arith) h) in
    greater_of_test a.id id e other

pub renamed_between : (id : ℕ) (new : List Row) (items : List Alteration) (at : ℕ) (a : Alteration) → at < length items → a ≡ get_or items at a → a.id ≢ id → IsNamePoint id items at
    → with_alteration id new items ≡ take at items ++ record { id = id; rows = new } ∷ drop at items
renamed_between id new items at a h is other point =
    let here : drop at items ≡ a ∷ drop (suc at) items = from_place items at a h is in
    renamed_past id new items at point
    ∙ ap (λ xs. take at items ++ xs) (rw here (renamed-more id new a (drop (suc at) items) (greater_at id items at a h is other point)))

pub named_between : (id : ℕ) (items : List Alteration) (at : ℕ) (a : Alteration) → at < length items → a ≡ get_or items at a → a.id ≢ id → Rises items → IsNamePoint id items at → alternatives_named id items ≡ None
named_between id items at a h is other rises point =
    let here : drop at items ≡ a ∷ drop (suc at) items = from_place items at a h is in
    let above : Above id (drop at items) = rw here (greater_at id items at a h is other point) in
    named_past id items at point ∙ named-above id (drop at items) above (rises-drop items at rises)

-- If there is no alteration at the place, it is the end.
past_all : (items : List Alteration) → drop (length items) items ≡ []
past_all [] = refl
past_all (a ∷ items) = past_all items

pub renamed_past_all : (id : ℕ) (new : List Row) (items : List Alteration) (at : ℕ) → at ≡ length items → IsNamePoint id items at
    → with_alteration id new items ≡ take at items ++ record { id = id; rows = new } ∷ drop at items
renamed_past_all id new items at end point =
    let none : drop at items ≡ [] = rw end (past_all items) in
    renamed_past id new items at point ∙ ap (λ xs. take at items ++ xs) (rw none refl)

pub named_past_all : (id : ℕ) (items : List Alteration) (at : ℕ) → at ≡ length items → IsNamePoint id items at → alternatives_named id items ≡ None
named_past_all id items at end point =
    let none : drop at items ≡ [] = rw end (past_all items) in
    named_past id items at point ∙ ap (alternatives_named id) none
