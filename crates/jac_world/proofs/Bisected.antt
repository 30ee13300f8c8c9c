-- Rising labels, searched by bisection: a label inserted in its place, and a label removed.
use Rattle.std.proofs.Common.{◌≡◌, ◌<◌, ◌≤◌, ◌==◌, ◌||◌, ◌&&◌, ℕ, zero, suc, Bool, true, false, not, List, [], ◌∷◌, ◌++◌, ◌⊎◌, inl, inr, Result, Ok, Err, is_ok, length, get_or, insert, remove, refl, ap, sym, subst, ◌∙◌, arith}
use Rattle.std.specs.List.Sorted.{IsBinarySearchResult}
use Rattle.std.specs.Ordering.{nat_cmp}
use Rattle.std.proofs.lemmas.Bool.{cases_lt}
use Rattle.std.proofs.lemmas.Bool.Decides.{nat_tests, Decides-eqb}
use Rattle.std.proofs.lemmas.List.Sorted.{searched}
use Rattle.jac_world.specs.World.{shown_by, IsAscending, StartsAboveBy}

above_first : (x : ℕ) (xs : List ℕ) → IsAscending (x ∷ xs) → (j : ℕ) → j < length xs → x < get_or xs j 0
above_first x [] up j less = absurd (omega (arith, less))
above_first x (y ∷ xs) up zero less = up.0
above_first x (y ∷ xs) up (suc j) less =
    let later : y < get_or xs j 0 = above_first y xs up.1 j (omega (arith, less)) in
    let first : x < y = up.0 in
    omega (arith, later, first)

rises : (xs : List ℕ) → IsAscending xs → (i j : ℕ) → i ≤ j → j < length xs → get_or xs i 0 ≤ get_or xs j 0
rises [] up i j order less = absurd (omega (arith, less))
rises (x ∷ xs) up zero zero order less = omega arith
rises (x ∷ xs) up zero (suc j) order less = let later : x < get_or xs j 0 = above_first x xs up j (omega (arith, less)) in omega (arith, later)
rises (x ∷ xs) up (suc i) zero order less = absurd (omega (arith, order))
rises (x ∷ xs) up (suc i) (suc j) order less = rises xs up.1 i j (omega (arith, order)) (omega (arith, less))

itself : (x : ℕ) → (x == x) ≡ true
itself x = grind (arith, nat_tests)

or_right : (a b : Bool) → b ≡ true → (a || b) ≡ true
or_right true b p = refl
or_right false b p = p

none_is : (xs : List ℕ) (x : ℕ) → ((k : ℕ) → k < length xs → (get_or xs k 0 == x) ≡ false) → shown_by xs x ≡ false
none_is [] x differ = refl
none_is (y ∷ xs) x differ = rw (differ 0 (omega arith)) (none_is xs x (λ k less. differ (suc k) (omega (arith, less))))

-- A label in the list is shown.
pub one_is : (xs : List ℕ) (x i : ℕ) → i < length xs → get_or xs i 0 ≡ x → shown_by xs x ≡ true
one_is [] x i less at = absurd (omega (arith, less))
one_is (y ∷ xs) x zero less at = rw at (rw (itself x) refl)
one_is (y ∷ xs) x (suc i) less at = or_right (y == x) (shown_by xs x) (one_is xs x i (omega (arith, less)) at)

pub among : (xs : List ℕ) (x : ℕ) (r : Result ℕ ℕ) → IsAscending xs → IsBinarySearchResult (λ y. nat_cmp y x) xs r → is_ok r ≡ shown_by xs x
among xs x (Ok i) up found =
    let at = searched xs x (Ok i) found (rises xs up) in
    sym (one_is xs x i at.0 at.1)
among xs x (Err i) up found =
    let parted = searched xs x (Err i) found (rises xs up) in
    sym (none_is xs x (λ k less. differs k less (cases_lt k i) parted.1 parted.2))
  where
    differs : (k : ℕ) → k < length xs → (k < i) ⊎ (i ≤ k) → ((k : ℕ) → k < i → get_or xs k 0 < x) → ((k : ℕ) → i ≤ k → k < length xs → x < get_or xs k 0) → (get_or xs k 0 == x) ≡ false
    differs k less (inl low) below above = let l : get_or xs k 0 < x = below k low in grind (arith, nat_tests)
    differs k less (inr high) below above = let l : x < get_or xs k 0 = above k high less in grind (arith, nat_tests)

-- A successful search gives the place of the label.
pub found_at : (xs : List ℕ) (x i : ℕ) → IsAscending xs → IsBinarySearchResult (λ y. nat_cmp y x) xs (Ok i) → (i < length xs) × (get_or xs i 0 ≡ x)
found_at xs x i up found = let at = searched xs x (Ok i) found (rises xs up) in (at.0, at.1)

-- The place at which a missing label is to be inserted: all labels before it are smaller, and all
-- from it on are larger.
pub record IsPlace (xs : List ℕ) (x i : ℕ) : Type 0 where
  pub within : i ≤ length xs
  pub below : (k : ℕ) → k < i → get_or xs k 0 < x
  pub above : (k : ℕ) → i ≤ k → k < length xs → x < get_or xs k 0

pub place_is : (xs : List ℕ) (x i : ℕ) → IsAscending xs → IsBinarySearchResult (λ y. nat_cmp y x) xs (Err i) → IsPlace xs x i
place_is xs x i up found =
    let parted = searched xs x (Err i) found (rises xs up) in
    record { within = parted.0; below = parted.1; above = parted.2 }

place_behind : (y : ℕ) (ys : List ℕ) (x i : ℕ) → IsPlace (y ∷ ys) x (suc i) → IsPlace ys x i
place_behind y ys x i place = record {
  within = omega (arith, place.within);
  below = λ k less. place.below (suc k) (omega (arith, less));
  above = λ k past less. place.above (suc k) (omega (arith, past)) (omega (arith, less));
}

-- After a label is inserted in its place, the labels still rise.
pub ascends_with : (xs : List ℕ) (x i : ℕ) → IsAscending xs → IsPlace xs x i → IsAscending (insert xs i x)
ascends_with [] x zero up place = (tt, tt)
ascends_with [] x (suc i) up place = absurd (omega (arith, place.within))
ascends_with (y ∷ ys) x zero up place = (place.above 0 (omega arith) (omega arith), up)
ascends_with (y ∷ []) x (suc zero) up place = (place.below 0 (omega arith), (tt, tt))
ascends_with (y ∷ []) x (suc (suc i)) up place = absurd (omega (arith, place.within))
ascends_with (y ∷ (z ∷ zs)) x (suc zero) up place = (place.below 0 (omega arith), ascends_with (z ∷ zs) x zero up.1 (place_behind y (z ∷ zs) x zero place))
ascends_with (y ∷ (z ∷ zs)) x (suc (suc i)) up place = (up.0, ascends_with (z ∷ zs) x (suc i) up.1 (place_behind y (z ∷ zs) x (suc i) place))

swap : (a b c : Bool) → (a || (b || c)) ≡ (b || (a || c))
swap true true c = refl
swap true false c = refl
swap false true c = refl
swap false false c = refl

-- After a label is inserted, the list shows that label too.
pub shows_with : (xs : List ℕ) (x i : ℕ) → i ≤ length xs → (k : ℕ) → shown_by (insert xs i x) k ≡ ((x == k) || shown_by xs k)
shows_with xs x zero within k = refl
shows_with [] x (suc i) within k = absurd (omega (arith, within))
shows_with (y ∷ ys) x (suc i) within k = ap (λ b. (y == k) || b) (shows_with ys x i (omega (arith, within)) k) ∙ swap (y == k) (x == k) (shown_by ys k)

-- After a label above the last is appended, the labels still rise.
pub ascends_end : (xs : List ℕ) (x i d : ℕ) → IsAscending xs → suc i ≡ length xs → get_or xs i d < x → IsAscending (xs ++ x ∷ [])
ascends_end [] x i d up end above = absurd (omega (arith, end))
ascends_end (y ∷ []) x zero d up end above = (above, (tt, tt))
ascends_end (y ∷ []) x (suc i) d up end above = absurd (omega (arith, end))
ascends_end (y ∷ (z ∷ zs)) x zero d up end above = absurd (omega (arith, end))
ascends_end (y ∷ (z ∷ zs)) x (suc i) d up end above = (up.0, ascends_end (z ∷ zs) x i d up.1 (omega (arith, end)) above)

pub shows_end : (xs : List ℕ) (x k : ℕ) → shown_by (xs ++ x ∷ []) k ≡ ((x == k) || shown_by xs k)
shows_end [] x k = refl
shows_end (y ∷ ys) x k = ap (λ b. (y == k) || b) (shows_end ys x k) ∙ swap (y == k) (x == k) (shown_by ys k)

-- A label that was found is shown already.
pub shows_found : (xs : List ℕ) (x : ℕ) → shown_by xs x ≡ true → (k : ℕ) → shown_by xs k ≡ ((x == k) || shown_by xs k)
shows_found xs x s k = found_if (x == k) refl
  where
    found_if : (b : Bool) → (x == k) ≡ b → shown_by xs k ≡ (b || shown_by xs k)
    found_if true e = ap (shown_by xs) (sym ((Decides-eqb x k).0 e)) ∙ s
    found_if false e = refl

-- Each label after the first is above it.
above_all : (x : ℕ) (xs : List ℕ) → IsAscending (x ∷ xs) → (k : ℕ) → shown_by xs k ≡ true → x < k
above_all x [] up k s = absurd cc
above_all x (y ∷ ys) up k s = above_if (y == k) refl s (λ later. (let first : x < y = up.0 in let rest : y < k = above_all y ys up.1 k later in omega (arith, first, rest)))
  where
    above_if : (b : Bool) → (y == k) ≡ b → (b || shown_by ys k) ≡ true → (shown_by ys k ≡ true → x < k) → x < k
    above_if true e t later = let is : y ≡ k = (Decides-eqb y k).0 e in let first : x < y = up.0 in omega (arith, first, is)
    above_if false e t later = later t

below_not : (x : ℕ) (xs : List ℕ) → IsAscending (x ∷ xs) → (k : ℕ) → (x == k) ≡ true → shown_by xs k ≡ false
below_not x xs up k e = not_if (shown_by xs k) refl
  where
    not_if : (b : Bool) → shown_by xs k ≡ b → b ≡ false
    not_if true s = absurd (let lt : x < k = above_all x xs up k s in let is : x ≡ k = (Decides-eqb x k).0 e in omega (arith, lt, is))
    not_if false s = refl

starts_without : (y : ℕ) (xs : List ℕ) (i : ℕ) → StartsAboveBy (λ x. x) y xs → IsAscending xs → i < length xs → StartsAboveBy (λ x. x) y (remove xs i)
starts_without y [] i starts up less = absurd (omega (arith, less))
starts_without y (x ∷ []) zero starts up less = tt
starts_without y (x ∷ (z ∷ zs)) zero starts up less = let first : x < z = up.0 in omega (arith, starts, first)
starts_without y (x ∷ xs) (suc i) starts up less = starts

-- After a label is removed, the labels still rise.
pub ascends_without : (xs : List ℕ) (i : ℕ) → IsAscending xs → i < length xs → IsAscending (remove xs i)
ascends_without [] i up less = absurd (omega (arith, less))
ascends_without (x ∷ xs) zero up less = up.1
ascends_without (x ∷ xs) (suc i) up less =
    let later : i < length xs = omega (arith, less) in
    (starts_without x xs i up.0 up.1 later, ascends_without xs i up.1 later)

head_without : (x y k : ℕ) (rest : Bool) → x < y → ((x == k) || (not (y == k) && rest)) ≡ (not (y == k) && ((x == k) || rest))
head_without x y k rest less = head_if (x == k) (y == k) refl refl
  where
    head_if : (b c : Bool) → (x == k) ≡ b → (y == k) ≡ c → (b || (not c && rest)) ≡ (not c && (b || rest))
    head_if true true e f = absurd (let a : x ≡ k = (Decides-eqb x k).0 e in let b : y ≡ k = (Decides-eqb y k).0 f in omega (arith, less, a, b))
    head_if true false e f = refl
    head_if false c e f = refl

-- After a label is removed, the list shows all other labels that it showed.
pub shows_without : (xs : List ℕ) (x i : ℕ) → IsAscending xs → i < length xs → get_or xs i 0 ≡ x → (k : ℕ) → shown_by (remove xs i) k ≡ (not (x == k) && shown_by xs k)
shows_without [] x i up less at k = absurd (omega (arith, less))
shows_without (y ∷ ys) x zero up less at k = rw (sym at) (first_if (y == k) refl)
  where
    first_if : (b : Bool) → (y == k) ≡ b → shown_by ys k ≡ (not b && (b || shown_by ys k))
    first_if true e = below_not y ys up k e
    first_if false e = refl
shows_without (y ∷ ys) x (suc i) up less at k =
    let later : i < length ys = omega (arith, less) in
    let above : y < x = subst (λ (n : ℕ). y < n) at (above_first y ys up i later) in
    ap (λ b. (y == k) || b) (shows_without ys x i up.1 later at k) ∙ head_without y x k (shown_by ys k) above

-- A label that wasn't found is hidden already.
pub hides_missing : (xs : List ℕ) (x : ℕ) → shown_by xs x ≡ false → (k : ℕ) → shown_by xs k ≡ (not (x == k) && shown_by xs k)
hides_missing xs x s k = missing_if (x == k) refl
  where
    missing_if : (b : Bool) → (x == k) ≡ b → shown_by xs k ≡ (not b && shown_by xs k)
    missing_if true e = ap (shown_by xs) (sym ((Decides-eqb x k).0 e)) ∙ s
    missing_if false e = refl

first_same : (x y : ℕ) (xs ys : List ℕ) → IsAscending (x ∷ xs) → IsAscending (y ∷ ys) → ((k : ℕ) → shown_by (x ∷ xs) k ≡ shown_by (y ∷ ys) k) → x ≡ y
first_same x y xs ys up_x up_y same =
    first_if (y == x) (x == y) refl refl
    (sym (same x) ∙ ap (λ b. b || shown_by xs x) (itself x))
    (same y ∙ ap (λ b. b || shown_by ys y) (itself y))
  where
    first_if : (b c : Bool) → (y == x) ≡ b → (x == y) ≡ c → (b || shown_by ys x) ≡ true → (c || shown_by xs y) ≡ true → x ≡ y
    first_if true c e f s t = sym ((Decides-eqb y x).0 e)
    first_if false true e f s t = (Decides-eqb x y).0 f
    first_if false false e f s t = absurd (let a : y < x = above_all y ys up_y x s in let b : x < y = above_all x xs up_x y t in omega (arith, a, b))

-- Rising lists that show the same labels are equal.
pub ascending_same : (xs ys : List ℕ) → IsAscending xs → IsAscending ys → ((k : ℕ) → shown_by xs k ≡ shown_by ys k) → xs ≡ ys
ascending_same [] [] up_x up_y same = refl
ascending_same [] (y ∷ ys) up_x up_y same = absurd (let e : false ≡ true = same y ∙ ap (λ b. b || shown_by ys y) (itself y) in cc)
ascending_same (x ∷ xs) [] up_x up_y same = absurd (let e : true ≡ false = sym (ap (λ b. b || shown_by xs x) (itself x)) ∙ same x in cc)
ascending_same (x ∷ xs) (y ∷ ys) up_x up_y same =
    let is : x ≡ y = first_same x y xs ys up_x up_y same in
    let rest : xs ≡ ys = ascending_same xs ys up_x.1 up_y.1 (λ k. rest_if k (x == k) refl) in
    ap (λ (i : ℕ). i ∷ xs) is ∙ ap (λ l. y ∷ l) rest
  where
    rest_if : (k : ℕ) (b : Bool) → (x == k) ≡ b → shown_by xs k ≡ shown_by ys k
    rest_if k true e =
        let is : x ≡ y = first_same x y xs ys up_x up_y same in
        below_not x xs up_x k e ∙ sym (below_not y ys up_y k (ap (λ (i : ℕ). i == k) (sym is) ∙ e))
    rest_if k false e =
        let is : x ≡ y = first_same x y xs ys up_x up_y same in
        ap (λ b. b || shown_by xs k) (sym e) ∙ same k ∙ ap (λ b. b || shown_by ys k) (ap (λ (i : ℕ). i == k) (sym is) ∙ e)
