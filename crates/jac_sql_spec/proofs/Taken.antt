-- Rows are deleted by their rowids, and one is inserted. No rowid comes twice.
use Rattle.std.proofs.Common.{◌≡◌, ℕ, ℤ, pos, List, [], ◌∷◌, map, filter, fold, length, eqb, Bool, true, false, not, ◌||◌, cond, int_cmp, is_eq, refl, sym, ap, ap₂, subst, ◌∙◌, Ordering, Less, Equal, Greater}
use Rattle.std.specs.Ordering.{int_eq, match_ordering}
use Rattle.std.specs.List.{list_any, AllByRecursion}
use Rattle.std.specs.List.Sorted.{IsPermutation}
use Rattle.std.proofs.lemmas.Cmp.{tied_itself, int_cmp_total}
use Rattle.std.proofs.lemmas.List.Sorted.{length_permutation, IsPermutation-map, IsPermutation-refl, IsPermutation-cons, IsPermutation-trans, IsPermutation-middle}
use Rattle.sqlite_value.proofs.OrderLemmas.{value_cmp-Int}
use Rattle.sqlite.specs.Order.{Row}
use Rattle.sqlite_trees.specs.Tree.{has_rowid, without_rowid, put_row, IsAscending}
use Rattle.sqlite.specs.Edit.{without_all, is_taken}
use Rattle.sqlite_keyed.specs.Lists.{delete_where, without_key}
use Rattle.sqlite_keyed.proofs.ListLemmas.{filter-map, filter_same, none_counted, IsPermutation-filter, filter_all, all_of, none_from_any, ascending-filter, map-map}
use Rattle.jac_sql_spec.specs.Lines.{Line, encode}
use Rattle.jac_sql_spec.specs.Stands.{AreDistinct}
use Rattle.jac_sql_spec.proofs.Permuted.{apart_permuted}

abbrev at : Line → ℤ
at l = l.at

abbrev spared : List ℤ → Line → Bool
spared ids l = not (list_any (λ id. int_eq (at l) id) ids)

both_filters : (a b : Line → Bool) (xs : List Line) → filter a (filter (λ l. not (b l)) xs) ≡ filter (λ l. not (b l || not (a l))) xs
both_filters a b [] = refl
both_filters a b (x ∷ xs) = go (b x) (a x) refl (both_filters a b xs)
  where
    go : (p q : Bool) → a x ≡ q → filter a (filter (λ l. not (b l)) xs) ≡ filter (λ l. not (b l || not (a l))) xs
        → filter a (cond (not p) (x ∷ filter (λ l. not (b l)) xs) (filter (λ l. not (b l)) xs)) ≡ cond (not (p || not q)) (x ∷ filter (λ l. not (b l || not (a l))) xs) (filter (λ l. not (b l || not (a l))) xs)
    go true q is rest = rest
    go false true is rest = rw is (ap (λ l. x ∷ l) rest)
    go false false is rest = rw is rest

twice : (b : Bool) → not (not b) ≡ b
twice true = refl
twice false = refl

folded : (ids : List ℤ) (xs : List Line) → fold (without_key at) xs ids ≡ filter (spared ids) xs
folded [] xs = sym (filter_all (λ _. true) xs (all_of _ (λ x. refl) xs))
folded (id ∷ ids) xs =
    folded ids (without_key at xs id) ∙ both_filters (spared ids) (λ l. int_eq (at l) id) xs
    ∙ filter_same _ _ (λ l. ap (λ b. not (int_eq (at l) id || b)) (twice (list_any (λ i. int_eq (at l) i) ids))) xs

same_spared : (ids others : List ℤ) → IsPermutation ids others → (l : Line) → spared ids l ≡ spared others l
same_spared ids others same l =
    let q = λ (id : ℤ). int_eq (at l) id in
    sym (none_counted q ids) ∙ ap (λ n. eqb n 0) (sym (length_permutation (filter q ids) (filter q others) (IsPermutation-filter q ids others same))) ∙ none_counted q others

by_key : (ids : List ℤ) (xs : List Line) → without_all (map encode xs) ids ≡ map encode (fold (without_key at) xs ids)
by_key [] xs = refl
by_key (id ∷ ids) xs =
    ap (λ rows. without_all rows ids) (filter-map (λ r. not (has_rowid id r)) encode xs ∙ ap (map encode) (filter_same _ _ (λ l. ap (λ o. not (is_eq o)) (value_cmp-Int (at l) id)) xs))
    ∙ by_key ids (without_key at xs id)

filter_on : (p q : Line → Bool) (xs : List Line) → AllByRecursion (λ x. p x ≡ q x) xs → filter p xs ≡ filter q xs
filter_on p q [] all = refl
filter_on p q (x ∷ xs) all = ap₂ (λ b l. cond b (x ∷ l) l) all.0 (filter_on p q xs all.1)

untaken : (x : Line) (p : Line → Bool) (xs : List Line) → AllByRecursion (λ y. is_eq (int_cmp (at x) (at y)) ≡ false) xs → spared (map at (filter p xs)) x ≡ true
untaken x p [] apart = refl
untaken x p (y ∷ ys) apart = go (p y) (untaken x p ys apart.1)
  where
    go : (b : Bool) → spared (map at (filter p ys)) x ≡ true → spared (map at (cond b (y ∷ filter p ys) (filter p ys))) x ≡ true
    go true more = rw apart.0 more
    go false more = more

turned : (x y : Line) → is_eq (int_cmp (at x) (at y)) ≡ false → is_eq (int_cmp (at y) (at x)) ≡ false
turned x y h = go (int_cmp (at x) (at y)) (int_cmp (at y) (at x)) (int_cmp_total.antisymm (at y) (at x)) h
  where
    go : (o p : Ordering) → p ≡ Rattle.std.specs.Ordering.ordering_reverse o → is_eq o ≡ false → is_eq p ≡ false
    go Less p e h = ap is_eq e
    go Equal p e h = ap is_eq e ∙ h
    go Greater p e h = ap is_eq e

passed_over : (x : Line) (ids : List ℤ) (xs : List Line) → AllByRecursion (λ y. is_eq (int_cmp (at x) (at y)) ≡ false) xs → AllByRecursion (λ y. spared (at x ∷ ids) y ≡ spared ids y) xs
passed_over x ids [] apart = tt
passed_over x ids (y ∷ ys) apart = (ap (λ b. not (b || list_any (λ id. int_eq (at y) id) ids)) (turned x y apart.0), passed_over x ids ys apart.1)

own_taken : (p : Line → Bool) (xs : List Line) → AreDistinct xs → filter (spared (map at (filter p xs))) xs ≡ delete_where p xs
own_taken p [] apart = refl
own_taken p (x ∷ xs) apart = go (p x) (own_taken p xs apart.1)
  where
    go : (b : Bool) → filter (spared (map at (filter p xs))) xs ≡ delete_where p xs
        → filter (spared (map at (cond b (x ∷ filter p xs) (filter p xs)))) (x ∷ xs) ≡ cond (not b) (x ∷ delete_where p xs) (delete_where p xs)
    go true more = rw (ap is_eq (tied_itself int_cmp_total (at x))) (filter_on _ _ xs (passed_over x (map at (filter p xs)) xs apart.0) ∙ more)
    go false more = rw (untaken x p xs apart.0) (ap (λ l. x ∷ l) more)

-- The rows that pass a test are deleted by their rowids, in any order.
pub gone : (p : Line → Bool) (lines : List Line) (ids : List ℤ) → AreDistinct lines → IsPermutation ids (map at (filter p lines)) → without_all (map encode lines) ids ≡ map encode (delete_where p lines)
gone p lines ids apart same = by_key ids lines ∙ ap (map encode) (folded ids lines ∙ filter_same _ _ (same_spared ids (map at (filter p lines)) same) lines ∙ own_taken p lines apart)

pub distinct_left : (p : Line → Bool) (lines : List Line) → AreDistinct lines → AreDistinct (delete_where p lines)
distinct_left p lines apart = ascending-filter (λ a b. is_eq (int_cmp a.at b.at) ≡ false) (λ l. not (p l)) lines apart

-- ---- one more

abbrev pub put_line : Line → List Line → List Line
put_line new [] = new ∷ []
put_line new (l ∷ ls) = match_ordering (int_cmp l.at new.at) (l ∷ put_line new ls) (new ∷ ls) (new ∷ l ∷ ls)

pub put_is : (new : Line) (lines : List Line) → put_row (encode new) (map encode lines) ≡ map encode (put_line new lines)
put_is new [] = refl
put_is new (l ∷ ls) = rw (value_cmp-Int (at l) (at new)) (go (int_cmp (at l) (at new)) (put_is new ls))
  where
    go : (o : Ordering) → put_row (encode new) (map encode ls) ≡ map encode (put_line new ls)
        → match_ordering o (encode l ∷ put_row (encode new) (map encode ls)) (encode new ∷ map encode ls) (encode new ∷ encode l ∷ map encode ls) ≡ map encode (match_ordering o (l ∷ put_line new ls) (new ∷ ls) (new ∷ l ∷ ls))
    go Less more = ap (λ x. encode l ∷ x) more
    go Equal more = refl
    go Greater more = refl

abbrev pub AreFree : Line → List Line → Type 0
AreFree new = AllByRecursion (λ l. is_eq (int_cmp l.at new.at) ≡ false)

pub put_permutes : (new : Line) (lines : List Line) → AreFree new lines → IsPermutation (new ∷ lines) (put_line new lines)
put_permutes new [] free = IsPermutation-refl (new ∷ [])
put_permutes new (l ∷ ls) free = go (int_cmp (at l) (at new)) free.0 (put_permutes new ls free.1)
  where
    go : (o : Ordering) → is_eq o ≡ false → IsPermutation (new ∷ ls) (put_line new ls) → IsPermutation (new ∷ l ∷ ls) (match_ordering o (l ∷ put_line new ls) (new ∷ ls) (new ∷ l ∷ ls))
    go Less e more = IsPermutation-trans _ _ _ (IsPermutation-middle (new ∷ []) l ls) (IsPermutation-cons l _ _ more)
    go Equal e more = absurd (Rattle.std.proofs.Common.true≢false e)
    go Greater e more = IsPermutation-refl _

free_turned : (new : Line) (lines : List Line) → AreFree new lines → AllByRecursion (λ l. is_eq (int_cmp new.at l.at) ≡ false) lines
free_turned new [] free = tt
free_turned new (l ∷ ls) free = (turned l new free.0, free_turned new ls free.1)

pub put_distinct : (new : Line) (lines : List Line) → AreFree new lines → AreDistinct lines → AreDistinct (put_line new lines)
put_distinct new lines free apart = apart_permuted (λ a b. is_eq (int_cmp a.at b.at) ≡ false) turned (new ∷ lines) (put_line new lines) (put_permutes new lines free) (free_turned new lines free, apart)

pub free_if_fresh : (new : Line) (lines : List Line) → is_taken (map encode lines) (encode new) ≡ false → AreFree new lines
free_if_fresh new [] fresh = tt
free_if_fresh new (l ∷ ls) fresh =
    let parts = none_from_any _ (map encode (l ∷ ls)) fresh in
    (ap is_eq (sym (value_cmp-Int (at l) (at new))) ∙ parts.0, free_if_fresh new ls (Rattle.sqlite_keyed.proofs.ListLemmas.any_from_none _ (map encode ls) parts.1))
