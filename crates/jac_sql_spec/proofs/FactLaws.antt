-- The facts of a table and of a state: their order, and tests of them.
use Rattle.std.proofs.Common.{◌≡◌, ◌≢◌, refl, sym, ap, ap₂, subst, ◌∙◌, ℕ, zero, suc, ◌+◌, ◌^◌, ◌<◌, ◌≤◌, ◌==◌, nat_lt, Bool, true, false, not, ◌&&◌, cond, if◌then◌else◌, List, [], ◌∷◌, ◌++◌, length, filter, append-nil, append_assoc, inl, inr, ◌⊎◌, arith, Ordering, Less, Equal, nat_cmp, is_eq, IsPermutation}
use Rattle.std.specs.List.{AllByRecursion}
use Rattle.std.specs.Cmp.Lexicographic.{slice_cmp}
use Rattle.std.specs.Ordering.{ordering_then}
use Rattle.std.proofs.lemmas.Bool.{cases_lt}
use Rattle.std.proofs.lemmas.Bool.Decides.{nat_tests}
use Rattle.std.proofs.lemmas.List.Sorted.{IsPermutation-refl, IsPermutation-trans, IsPermutation-middle, IsPermutation-append, IsPermutation-append_right}
use Rattle.sqlite_trees.specs.Tree.{IsAscending}
use Rattle.sqlite_keyed.proofs.ListLemmas.{all-append, ascending-append}
use Rattle.jac_rows.specs.declared.row.Row.{Row}
use Rattle.jac_value.specs.Ids.{model_of_id}
use Rattle.jac_rows.specs.Tables.{rows_of}
use Rattle.jac_keep.proofs.SoundLaws.{less-before, greater-behind}
use Rattle.jac_keep.specs.declared.alteration.Alteration.{Alteration}
use Rattle.jac_keep.specs.Alterations.{overlaid_from}
use Rattle.jac_keep.specs.Records.{with_id, before, behind, placed_rows, AreOf, AreOrdered}
use Rattle.jac_sql_spec.specs.Facts.{Fact, fact_of, id_bytes, count_with, none_yet, numbered_facts, facts_from, fact_cmp, IsPlaced, ArePlacedFrom, is_fact_in, is_fact_of}
use Rattle.jac_sql_spec.proofs.IdOrder.{cases_same, ids_rise, same_id, other_id, other_number, same_number, number_less}

-- ---- the order of the facts

-- Later facts of a table have greater ids, or the same id and greater numbers.
counted_more : (id i n : ℕ) (c : ℕ → ℕ) → n ≤ c i → n ≤ count_with id c i
counted_more id i n c h = go (i == id)
  where
    go : (b : Bool) → n ≤ (if b then c i + 1 else c i)
    go true = omega (arith, h)
    go false = h

counted_own : (id : ℕ) (c : ℕ → ℕ) → count_with id c id ≡ c id + 1
counted_own id c = grind arith

later_one : (model n alt : ℕ) (r x : Row) → r.id < 2 ^ 128 → x.id < 2 ^ 128 → r.id ≤ x.id → (r.id ≡ x.id → n < alt) → fact_cmp (fact_of model n r) (fact_of model alt x) ≡ Less
later_one model n alt r x room space le more = elim (cases_lt r.id x.id) [
  | inl less ↦ rw (Rattle.std.proofs.lemmas.Cmp.tied_itself Rattle.std.proofs.lemmas.Cmp.nat_cmp_total model, ids_rise r.id x.id less space) refl
  | inr not_less ↦ (
      let same : r.id ≡ x.id = omega (arith, le, not_less) in
      rw (Rattle.std.proofs.lemmas.Cmp.tied_itself Rattle.std.proofs.lemmas.Cmp.nat_cmp_total model, ap (λ i. slice_cmp nat_cmp (id_bytes i) (id_bytes x.id)) same ∙ same_id x.id) (number_less n alt (more same)))
]

later : (model n : ℕ) (c : ℕ → ℕ) (r : Row) (xs : List Row) → n < c r.id → r.id < 2 ^ 128 → AllByRecursion (λ (x : Row). r.id ≤ x.id) xs → AllByRecursion (IsPlaced model) xs
    → AllByRecursion (λ f. fact_cmp (fact_of model n r) f ≡ Less) (numbered_facts model c xs)
later model n c r [] more room above placed = tt
later model n c r (x ∷ xs) more room above placed = (
  later_one model n (c x.id) r x room placed.0.room above.0 (λ same. subst (λ i. n < c i) same more),
  later model n (count_with x.id c) r xs (counted_more x.id r.id (suc n) c more) room above.1 placed.1,
)

pub numbered_rise : (model : ℕ) (c : ℕ → ℕ) (rows : List Row) → AreOrdered rows → AllByRecursion (IsPlaced model) rows → IsAscending (λ a b. fact_cmp a b ≡ Less) (numbered_facts model c rows)
numbered_rise model c [] ordered placed = tt
numbered_rise model c (r ∷ rs) ordered placed = (
  later model (c r.id) (count_with r.id c) r rs (let e = counted_own r.id c in omega (arith, e)) placed.0.room ordered.0 placed.1,
  numbered_rise model (count_with r.id c) rs ordered.1 placed.1,
)

-- The facts of one model, and of the models from one on.
pub of_one : (model : ℕ) (c : ℕ → ℕ) (rows : List Row) → AllByRecursion (λ (f : Fact). f.model ≡ model) (numbered_facts model c rows)
of_one model c [] = tt
of_one model c (r ∷ rs) = (refl, of_one model (count_with r.id c) rs)

abbrev From : ℕ → List Fact → Type 0
From model = AllByRecursion (λ (f : Fact). model ≤ f.model)

weaker : (least less : ℕ) (fs : List Fact) → less ≤ least → From least fs → From less fs
weaker least less [] h all = tt
weaker least less (f ∷ fs) h all = (omega (arith, h, all.0), weaker least less fs h all.1)

equal_from : (model : ℕ) (fs : List Fact) → AllByRecursion (λ (f : Fact). f.model ≡ model) fs → From model fs
equal_from model [] all = tt
equal_from model (f ∷ fs) all = (omega (arith, all.0), equal_from model fs all.1)

pub from_models : (model : ℕ) (tables : List (List Row)) → From model (facts_from model tables)
from_models model [] = tt
from_models model (t ∷ ts) =
    all-append (λ (f : Fact). model ≤ f.model) (numbered_facts model none_yet t) (facts_from (model + 1) ts) (equal_from model _ (of_one model none_yet t)) (weaker (model + 1) model _ (omega arith) (from_models (model + 1) ts))

across_one : (model : ℕ) (f : Fact) (gs : List Fact) → f.model ≡ model → From (model + 1) gs → AllByRecursion (λ g. fact_cmp f g ≡ Less) gs
across_one model f [] same all = tt
across_one model f (g ∷ gs) same all = (rw (number_less f.model g.model (omega (arith, same, all.0))) refl, across_one model f gs same all.1)

across : (model : ℕ) (fs gs : List Fact) → AllByRecursion (λ (f : Fact). f.model ≡ model) fs → From (model + 1) gs → AllByRecursion (λ f. AllByRecursion (λ g. fact_cmp f g ≡ Less) gs) fs
across model [] gs same all = tt
across model (f ∷ fs) gs same all = (across_one model f gs same.0 all, across model fs gs same.1 all)

-- The facts of a state rise.
pub facts_rise : (model : ℕ) (tables : List (List Row)) → ArePlacedFrom model tables → IsAscending (λ a b. fact_cmp a b ≡ Less) (facts_from model tables)
facts_rise model [] kept = tt
facts_rise model (t ∷ ts) kept =
    ascending-append (λ a b. fact_cmp a b ≡ Less) (numbered_facts model none_yet t) (facts_from (model + 1) ts)
    (numbered_rise model none_yet t kept.0 kept.1) (facts_rise (model + 1) ts kept.2)
    (across model _ _ (of_one model none_yet t) (from_models (model + 1) ts))

rows_of_none : (k : ℕ) → rows_of {X = Row} [] k ≡ []
rows_of_none zero = refl
rows_of_none (suc k) = refl

-- ---- the facts of one model

filter-append : {X : Type 0} (p : X → Bool) (xs ys : List X) → filter p (xs ++ ys) ≡ filter p xs ++ filter p ys
filter-append p [] ys = refl
filter-append p (x ∷ xs) ys = elim (p x) as (λ b. cond b (x ∷ filter p (xs ++ ys)) (filter p (xs ++ ys)) ≡ cond b (x ∷ filter p xs) (filter p xs) ++ filter p ys)
    [ true ↦ ap (λ l. x ∷ l) (filter-append p xs ys) | false ↦ filter-append p xs ys ]

all_in : (model : ℕ) (fs : List Fact) → AllByRecursion (λ (f : Fact). f.model ≡ model) fs → filter (is_fact_in model) fs ≡ fs
all_in model [] all = refl
all_in model (f ∷ fs) all = rw (ap (λ m. is_eq (nat_cmp m model)) all.0 ∙ same_number model, all_in model fs all.1) refl

none_in : (model : ℕ) (fs : List Fact) → AllByRecursion (λ (f : Fact). f.model ≢ model) fs → filter (is_fact_in model) fs ≡ []
none_in model [] all = refl
none_in model (f ∷ fs) all = rw (other_number f.model model all.0, none_in model fs all.1) refl

apart_from : (model : ℕ) (fs : List Fact) → From (model + 1) fs → AllByRecursion (λ (f : Fact). f.model ≢ model) fs
apart_from model [] all = tt
apart_from model (f ∷ fs) all = ((λ e. omega (arith, e, all.0)), apart_from model fs all.1)

apart_of : (model other : ℕ) (fs : List Fact) → other ≢ model → AllByRecursion (λ (f : Fact). f.model ≡ other) fs → AllByRecursion (λ (f : Fact). f.model ≢ model) fs
apart_of model other [] differ all = tt
apart_of model other (f ∷ fs) differ all = ((λ e. differ (sym all.0 ∙ e)), apart_of model other fs differ all.1)

-- The facts of a model are those of its table.
pub facts_in : (first k model : ℕ) (tables : List (List Row)) → model ≡ first + k → filter (is_fact_in model) (facts_from first tables) ≡ numbered_facts model none_yet (rows_of tables k)
facts_in first k model [] is = ap (numbered_facts model none_yet) (sym (rows_of_none k))
facts_in first zero model (t ∷ ts) is =
    let same : first ≡ model = omega (arith, is) in
    filter-append (is_fact_in model) (numbered_facts first none_yet t) (facts_from (first + 1) ts)
    ∙ ap₂ ◌++◌ (subst (λ m. filter (is_fact_in model) (numbered_facts m none_yet t) ≡ numbered_facts model none_yet t) (sym same) (all_in model _ (of_one model none_yet t)))
    (none_in model _ (apart_from model _ (subst (λ m. From (m + 1) (facts_from (first + 1) ts)) same (from_models (first + 1) ts))))
    ∙ append-nil (numbered_facts model none_yet t)
facts_in first (suc k) model (t ∷ ts) is =
    let next : model ≡ (first + 1) + k = omega (arith, is) in
    let other : first ≢ model = λ e. omega (arith, is, e) in
    filter-append (is_fact_in model) (numbered_facts first none_yet t) (facts_from (first + 1) ts)
    ∙ ap₂ ◌++◌ (none_in model _ (apart_of model first _ other (of_one first none_yet t))) (facts_in (first + 1) k model ts next)

-- ---- without a record

-- The counts are equal, except perhaps at one id.
abbrev Alike : ℕ → (ℕ → ℕ) → (ℕ → ℕ) → Type 0
Alike id c d = (i : ℕ) → i ≢ id → c i ≡ d i

alike_counted : (id other : ℕ) (c d : ℕ → ℕ) → Alike id c d → Alike id (count_with other c) (count_with other d)
alike_counted id other c d same i away = ap (λ n. if i == other then n + 1 else n) (same i away)

alike_skipped : (id : ℕ) (c d : ℕ → ℕ) → Alike id c d → Alike id (count_with id c) d
alike_skipped id c d same i away = let e : (i == id) ≡ false = grind (arith, away) in rw e (same i away)

own_true : (model id alt : ℕ) (r : Row) → r.id ≡ id → is_fact_of model (id_bytes id) (fact_of model alt r) ≡ true
own_true model id alt r same = rw (same_number model, ap is_eq (ap (λ i. slice_cmp nat_cmp (id_bytes i) (id_bytes id)) same ∙ same_id id)) refl

other_false : (model id alt : ℕ) (r : Row) → r.id ≢ id → r.id < 2 ^ 128 → id < 2 ^ 128 → is_fact_of model (id_bytes id) (fact_of model alt r) ≡ false
other_false model id alt r away room space = rw (same_number model, other_id r.id id away room space) refl

abbrev others : ℕ → List Row → List Row
others id rows = with_id (λ i. not (i == id)) rows

pub numbered_without : (model id : ℕ) (c d : ℕ → ℕ) (rows : List Row) → id < 2 ^ 128 → Alike id c d → AllByRecursion (IsPlaced model) rows
    → filter (λ f. not (is_fact_of model (id_bytes id) f)) (numbered_facts model c rows) ≡ numbered_facts model d (others id rows)
numbered_without model id c d [] space same placed = refl
numbered_without model id c d (r ∷ rs) space same placed = elim (cases_same r.id id) [
  | inl is ↦ (
      let e : (r.id == id) ≡ true = grind (arith, is) in
      rw (own_true model id (c r.id) r is, e) (numbered_without model id (count_with r.id c) d rs space (subst (λ i. Alike id (count_with i c) d) (sym is) (alike_skipped id c d same)) placed.1))
  | inr away ↦ (
      let e : (r.id == id) ≡ false = grind (arith, away) in
      rw (other_false model id (c r.id) r away placed.0.room space, e)
      (ap₂ ◌∷◌ (ap (λ n. fact_of model n r) (same r.id away)) (numbered_without model id (count_with r.id c) (count_with r.id d) rs space (alike_counted id r.id c d same) placed.1)))
]

-- The test for a record of another model passes no fact.
numbered_apart : (model other id : ℕ) (c : ℕ → ℕ) (rows : List Row) → other ≢ model → filter (λ f. not (is_fact_of model (id_bytes id) f)) (numbered_facts other c rows) ≡ numbered_facts other c rows
numbered_apart model other id c [] differ = refl
numbered_apart model other id c (r ∷ rs) differ = rw (other_number other model differ) (ap (λ l. fact_of other (c r.id) r ∷ l) (numbered_apart model other id (count_with r.id c) rs differ))

-- In an ordered table, the rows before a record and those after it are all rows but the record's.
none_before : (id : ℕ) (rows : List Row) → AllByRecursion (λ (x : Row). id ≤ x.id) rows → before id rows ≡ []
none_before id [] all = refl
none_before id (r ∷ rs) all = let e : nat_lt r.id id ≡ false = grind (arith, nat_tests, all.0) in rw e (none_before id rs all.1)

behind_is : (id : ℕ) (rows : List Row) → AllByRecursion (λ (x : Row). id ≤ x.id) rows → behind id rows ≡ others id rows
behind_is id [] all = refl
behind_is id (r ∷ rs) all =
    let e : nat_lt id r.id ≡ not (r.id == id) = grind (arith, nat_tests, all.0) in
    rw (e, behind_is id rs all.1) refl

above_all : (id least : ℕ) (rows : List Row) → id ≤ least → AllByRecursion (λ (x : Row). least ≤ x.id) rows → AllByRecursion (λ (x : Row). id ≤ x.id) rows
above_all id least [] h all = tt
above_all id least (r ∷ rs) h all = (omega (arith, h, all.0), above_all id least rs h all.1)

pub around_is : (id : ℕ) (rows : List Row) → AreOrdered rows → before id rows ++ behind id rows ≡ others id rows
around_is id [] ordered = refl
around_is id (r ∷ rs) ordered = elim (cases_lt r.id id) [
  | inl less ↦ (
      let e : nat_lt r.id id ≡ true = grind (arith, nat_tests, less) in
      let f : nat_lt id r.id ≡ false = grind (arith, nat_tests, less) in
      let g : (r.id == id) ≡ false = grind (arith, nat_tests, less) in
      rw (e, f, g) (ap (λ l. r ∷ l) (around_is id rs ordered.1)))
  | inr not_less ↦ (
      let all : AllByRecursion (λ (x : Row). id ≤ x.id) (r ∷ rs) = (not_less, above_all id r.id rs not_less ordered.0) in
      ap (λ l. l ++ behind id (r ∷ rs)) (none_before id (r ∷ rs) all) ∙ behind_is id (r ∷ rs) all)
]

pub placed_none : (id : ℕ) (rows : List Row) → AreOrdered rows → placed_rows id [] rows ≡ others id rows
placed_none id rows ordered = ap (λ l. l ++ behind id rows) (append-nil (before id rows)) ∙ around_is id rows ordered

pub facts_without : (first id : ℕ) (tables : List (List Row)) → id < 2 ^ 128 → ArePlacedFrom first tables
    → filter (λ f. not (is_fact_of (model_of_id id) (id_bytes id) f)) (facts_from first tables) ≡ facts_from first (overlaid_from first (record { id = id; rows = [] } ∷ []) tables)
facts_without first id [] space kept = refl
facts_without first id (t ∷ ts) space kept =
    let model = model_of_id id in
    let more = facts_without (first + 1) id ts space kept.2 in
    filter-append (λ f. not (is_fact_of model (id_bytes id) f)) (numbered_facts first none_yet t) (facts_from (first + 1) ts)
    ∙ elim (cases_same (model_of_id id) first) [
      | inl is ↦ (
          let e : (model_of_id id == first) ≡ true = grind (arith, is) in
          rw e (ap₂ ◌++◌
          (subst (λ m. filter (λ f. not (is_fact_of m (id_bytes id) f)) (numbered_facts first none_yet t) ≡ numbered_facts first none_yet (others id t)) (sym is)
          (numbered_without first id none_yet none_yet t space (λ i away. refl) kept.1) ∙ ap (numbered_facts first none_yet) (sym (placed_none id t kept.0)))
          more))
      | inr away ↦ (
          let e : (model_of_id id == first) ≡ false = grind (arith, away) in
          rw e (ap₂ ◌++◌ (numbered_apart model first id none_yet t (λ s. away (sym s))) more))
    ]

-- ---- with one more alternative

counts : List Row → (ℕ → ℕ) → ℕ → ℕ
counts [] c = c
counts (r ∷ rs) c = counts rs (count_with r.id c)

numbered-append : (model : ℕ) (c : ℕ → ℕ) (xs ys : List Row) → numbered_facts model c (xs ++ ys) ≡ numbered_facts model c xs ++ numbered_facts model (counts xs c) ys
unfolding counts
numbered-append model c [] ys = refl
numbered-append model c (x ∷ xs) ys = ap (λ l. fact_of model (c x.id) x ∷ l) (numbered-append model (count_with x.id c) xs ys)

counts_away : (id : ℕ) (xs : List Row) (c : ℕ → ℕ) → AllByRecursion (λ (x : Row). x.id ≢ id) xs → counts xs c id ≡ c id
unfolding counts
counts_away id [] c all = refl
counts_away id (x ∷ xs) c all = let e : (id == x.id) ≡ false = (let away = all.0 in grind (arith, away)) in counts_away id xs (count_with x.id c) all.1 ∙ rw e refl

counts_of : (id : ℕ) (xs : List Row) (c : ℕ → ℕ) → AreOf id xs → counts xs c id ≡ c id + length xs
unfolding counts
counts_of id [] c own = omega arith
counts_of id (x ∷ xs) c own =
    let e : count_with x.id c id ≡ c id + 1 = (let f : (id == x.id) ≡ true = (let is = own.0 in grind (arith, is)) in rw f refl) in
    let more = counts_of id xs (count_with x.id c) own.1 in
    let long : length (x ∷ xs) ≡ suc (length xs) = refl in
    omega (arith, e, more, long)

counts_alike : (id : ℕ) (xs : List Row) (c d : ℕ → ℕ) → Alike id c d → Alike id (counts xs c) (counts xs d)
unfolding counts
counts_alike id [] c d same = same
counts_alike id (x ∷ xs) c d same = counts_alike id xs (count_with x.id c) (count_with x.id d) (alike_counted id x.id c d same)

numbered_alike : (model id : ℕ) (c d : ℕ → ℕ) (rows : List Row) → Alike id c d → AllByRecursion (λ (x : Row). x.id ≢ id) rows → numbered_facts model c rows ≡ numbered_facts model d rows
numbered_alike model id c d [] same all = refl
numbered_alike model id c d (r ∷ rs) same all =
    ap₂ ◌∷◌ (ap (λ n. fact_of model n r) (same r.id all.0)) (numbered_alike model id (count_with r.id c) (count_with r.id d) rs (alike_counted id r.id c d same) all.1)

less_away : (id : ℕ) (xs : List Row) → AllByRecursion (λ (x : Row). x.id < id) xs → AllByRecursion (λ (x : Row). x.id ≢ id) xs
less_away id [] all = tt
less_away id (x ∷ xs) all = ((λ e. omega (arith, e, all.0)), less_away id xs all.1)

more_away : (id : ℕ) (xs : List Row) → AllByRecursion (λ (x : Row). id + 1 ≤ x.id) xs → AllByRecursion (λ (x : Row). x.id ≢ id) xs
more_away id [] all = tt
more_away id (x ∷ xs) all = ((λ e. omega (arith, e, all.0)), more_away id xs all.1)

regroup : {X : Type 0} (b m : List X) (x : X) (h : List X) → (b ++ (m ++ x ∷ [])) ++ h ≡ (b ++ m) ++ x ∷ h
regroup b m x h = ap (λ l. l ++ h) (sym (append_assoc b m (x ∷ []))) ∙ append_assoc (b ++ m) (x ∷ []) h

counts-append : (xs ys : List Row) (c : ℕ → ℕ) → counts (xs ++ ys) c ≡ counts ys (counts xs c)
unfolding counts
counts-append [] ys c = refl
counts-append (x ∷ xs) ys c = counts-append xs ys (count_with x.id c)

last_alike : (id : ℕ) (r : Row) (c : ℕ → ℕ) → r.id ≡ id → Alike id (counts (r ∷ []) c) c
unfolding counts
last_alike id r c is = subst (λ i. Alike id (count_with i c) c) (sym is) (alike_skipped id c c (λ i away. refl))

added_alike : (id : ℕ) (b xs : List Row) (r : Row) (c : ℕ → ℕ) → r.id ≡ id → Alike id (counts (b ++ (xs ++ r ∷ [])) c) (counts (b ++ xs) c)
added_alike id b xs r c is i away =
    ap (λ f. f i) (counts-append b (xs ++ r ∷ []) c ∙ counts-append xs (r ∷ []) (counts b c)) ∙ last_alike id r (counts xs (counts b c)) is i away
    ∙ ap (λ f. f i) (sym (counts-append b xs c))

from_zero : (n : ℕ) → 0 + n ≡ n
from_zero n = omega arith

pub numbered_added : (model id : ℕ) (xs rows : List Row) (r : Row) → AreOf id xs → r.id ≡ id
    → IsPermutation (numbered_facts model none_yet (placed_rows id (xs ++ r ∷ []) rows)) (fact_of model (length xs) r ∷ numbered_facts model none_yet (placed_rows id xs rows))
numbered_added model id xs rows r own is =
    let B = before id rows in
    let H = behind id rows in
    let c = counts B none_yet in
    let nb = numbered_facts model none_yet B in
    let nx = numbered_facts model c xs in
    let behinds = more_away id H (greater-behind id rows) in
    let at : counts xs c r.id ≡ length xs = ap (counts xs c) is ∙ counts_of id xs c own ∙ ap (λ n. n + length xs) (counts_away id B none_yet (less_away id B (less-before id rows))) ∙ from_zero (length xs) in
    let one : numbered_facts model none_yet (B ++ (xs ++ r ∷ [])) ≡ nb ++ (nx ++ fact_of model (length xs) r ∷ []) =
    numbered-append model none_yet B (xs ++ r ∷ []) ∙ ap (λ l. nb ++ l) (numbered-append model c xs (r ∷ []) ∙ ap (λ n. nx ++ fact_of model n r ∷ []) at) in
    let two : numbered_facts model none_yet (B ++ xs) ≡ nb ++ nx = numbered-append model none_yet B xs in
    let ch = counts (B ++ xs) none_yet in
    let dh = counts (B ++ (xs ++ r ∷ [])) none_yet in
    let same : numbered_facts model dh H ≡ numbered_facts model ch H = numbered_alike model id dh ch H (added_alike id B xs r none_yet is) behinds in
    let whole : numbered_facts model none_yet (placed_rows id (xs ++ r ∷ []) rows) ≡ (nb ++ nx) ++ fact_of model (length xs) r ∷ numbered_facts model ch H =
    numbered-append model none_yet (B ++ (xs ++ r ∷ [])) H ∙ ap₂ ◌++◌ one same ∙ regroup nb nx (fact_of model (length xs) r) (numbered_facts model ch H) in
    let old : numbered_facts model none_yet (placed_rows id xs rows) ≡ (nb ++ nx) ++ numbered_facts model ch H = numbered-append model none_yet (B ++ xs) H ∙ ap (λ l. l ++ numbered_facts model ch H) two in
    subst (λ l. IsPermutation l (fact_of model (length xs) r ∷ numbered_facts model none_yet (placed_rows id xs rows))) (sym whole)
    (subst (λ l. IsPermutation ((nb ++ nx) ++ fact_of model (length xs) r ∷ numbered_facts model ch H) (fact_of model (length xs) r ∷ l)) (sym old) (IsPermutation-middle (nb ++ nx) (fact_of model (length xs) r) (numbered_facts model ch H)))

unaltered : (first id : ℕ) (new : List Row) (tables : List (List Row)) → model_of_id id < first → overlaid_from first (record { id = id; rows = new } ∷ []) tables ≡ tables
unaltered first id new [] below = refl
unaltered first id new (t ∷ ts) below =
    let away : model_of_id id ≢ first = λ e. omega (arith, e, below) in
    let e : (model_of_id id == first) ≡ false = grind (arith, away) in
    rw e (ap (λ l. t ∷ l) (unaltered (first + 1) id new ts (omega (arith, below))))

pub facts_added : (first id : ℕ) (xs : List Row) (r : Row) (tables : List (List Row)) → AreOf id xs → r.id ≡ id → first ≤ model_of_id id → model_of_id id < first + length tables
    → IsPermutation (facts_from first (overlaid_from first (record { id = id; rows = xs ++ r ∷ [] } ∷ []) tables))
    (fact_of (model_of_id id) (length xs) r ∷ facts_from first (overlaid_from first (record { id = id; rows = xs } ∷ []) tables))
facts_added first id xs r [] own is from within = absurd (omega (arith, from, within))
facts_added first id xs r (t ∷ ts) own is from within = elim (cases_same (model_of_id id) first) [
  | inl here ↦ (
      let e : (model_of_id id == first) ≡ true = grind (arith, here) in
      let past : model_of_id id < first + 1 = omega (arith, here) in
      let rest = λ (new : List Row). unaltered (first + 1) id new ts past in
      let one = numbered_added first id xs t r own is in
      rw (e, rest (xs ++ r ∷ []), rest xs)
      (subst (λ m. IsPermutation (numbered_facts first none_yet (placed_rows id (xs ++ r ∷ []) t) ++ facts_from (first + 1) ts) (fact_of m (length xs) r ∷ (numbered_facts first none_yet (placed_rows id xs t) ++ facts_from (first + 1) ts))) (sym here)
      (IsPermutation-append _ _ _ _ one (IsPermutation-refl (facts_from (first + 1) ts)))))
  | inr away ↦ (
      let e : (model_of_id id == first) ≡ false = grind (arith, away) in
      let long : length (t ∷ ts) ≡ suc (length ts) = refl in
      let more = facts_added (first + 1) id xs r ts own is (omega (arith, from, away)) (omega (arith, within, long)) in
      let nt = numbered_facts first none_yet t in
      rw e (IsPermutation-trans _ _ _ (IsPermutation-append_right nt _ _ more) (IsPermutation-middle nt _ _)))
]
