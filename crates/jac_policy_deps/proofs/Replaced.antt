-- Tables in which records are replaced. What stays is the same, and what is found is found among
-- the replaced records.
use Rattle.std.proofs.Common.{◌≡◌, ◌∙◌, refl, sym, ap, subst, arith, ℕ, zero, suc, ◌+◌, ◌<◌, ◌^◌, ◌==◌, ◌&&◌, ◌||◌, not, nat_lt, Bool, true, false, if◌then◌else◌, List, [], ◌∷◌, ◌++◌, append-nil}
use Rattle.std.specs.Prelude.{Option, map, slice_get}
use Rattle.std.specs.List.{AllByRecursion, list_any}
use Rattle.std.proofs.lemmas.Bool.{and_parts, or_right, or_left, and_from}
use Rattle.std.proofs.lemmas.Bool.Decides.{nat_tests}
use Rattle.jac_value.specs.Ids.{model_of_id, is_id_of}
use Rattle.jac_rows.specs.Good.{AreSound, IsMade, IsSound}
use Rattle.jac_rows.specs.Project.{rows_at}
use Rattle.jac_rows.specs.Tables.{rows_of}
use Rattle.jac_rows.specs.declared.row.Row.{Row}
use Rattle.jac_rows.specs.declared.state.State.{State}
use Rattle.jac_keep.specs.declared.alteration.Alteration.{Alteration}
use Rattle.jac_keep.specs.Alterations.{AreOwn, alters, altered_rows, overlaid_from, overlaid}
use Rattle.jac_keep.specs.Records.{with_id, alternatives, before, behind, placed_rows, AreOf, AreOrdered}
use Rattle.jac_keep.specs.Sound.{AreTables}
use Rattle.jac_keep.proofs.Gathered.{joined}
use Rattle.jac_keep.proofs.OrderLaws.{ordered_if_rising, ordered-placed}
use Rattle.jac_keep.proofs.SoundLaws.{all-with_id, all-append, all-mapped}
use Rattle.jac_plain.specs.Records.{with_ids}
use Rattle.jac_index_choice.proofs.Finding.{rows_at_with_id}
use Rattle.jac_policy_deps.specs.Altered.{is_altered, is_outside, alternatives_altered, referred_by, row_refers}

-- Rows that are picked twice, in two parts, by a test that fails for some.
picked_if : (b c : Bool) (r : Row) (xs ys : List Row) (test : ℕ → Bool) → test r.id ≡ c → with_id test xs ≡ ys
    → with_id test (if b then r ∷ xs else xs) ≡ (if b && c then r ∷ ys else ys)
picked_if true true r xs ys test e h = rw (e, h) refl
picked_if true false r xs ys test e h = rw (e, h) refl
picked_if false c r xs ys test e h = h

picked_twice : (test other : ℕ → Bool) (rows : List Row) → with_id test (with_id other rows) ≡ with_id (λ i. other i && test i) rows
picked_twice test other [] = refl
picked_twice test other (r ∷ rows) =
    picked_if (other r.id) (test r.id) r (with_id other rows) (with_id (λ i. other i && test i) rows) test refl (picked_twice test other rows)

join_if : (b : Bool) (r : Row) (xs ys zs : List Row) → zs ≡ xs ++ ys → (if b then r ∷ zs else zs) ≡ (if b then r ∷ xs else xs) ++ ys
join_if true r xs ys zs e = ap (λ l. r ∷ l) e
join_if false r xs ys zs e = e

picked_append : (test : ℕ → Bool) (xs ys : List Row) → with_id test (xs ++ ys) ≡ with_id test xs ++ with_id test ys
picked_append test [] ys = refl
picked_append test (x ∷ xs) ys = join_if (test x.id) x (with_id test xs) (with_id test ys) (with_id test (xs ++ ys)) (picked_append test xs ys)

none_if : (b : Bool) (r : Row) (xs : List Row) → b ≡ false → xs ≡ [] → (if b then r ∷ xs else xs) ≡ []
none_if true r xs e h = absurd cc
none_if false r xs e h = h

picked_none : (test : ℕ → Bool) (id : ℕ) (rows : List Row) → AreOf id rows → test id ≡ false → with_id test rows ≡ []
picked_none test id [] own fails = refl
picked_none test id (r ∷ rows) own fails =
    none_if (test r.id) r (with_id test rows) (ap test own.0 ∙ fails) (picked_none test id rows own.1 fails)

pick_if : (a b x : Bool) → (a ≡ false → b ≡ false → x ≡ false) → ((a && x) || (b && x)) ≡ x
pick_if true true true h = refl
pick_if true true false h = refl
pick_if true false true h = refl
pick_if true false false h = refl
pick_if false true true h = refl
pick_if false true false h = refl
pick_if false false true h = sym (h refl refl)
pick_if false false false h = refl

same_number : (i j : ℕ) → nat_lt i j ≡ false → nat_lt j i ≡ false → i ≡ j
same_number i j a b = grind (arith, a, b)

less_and : (i j id : ℕ) (a b : Bool) → (nat_lt i id && a) ≡ true → (nat_lt id j && b) ≡ true → i < j
less_and i j id a b p q =
    let front : nat_lt i id ≡ true = (and_parts (nat_lt i id) a p).0 in
    let back : nat_lt id j ≡ true = (and_parts (nat_lt id j) b q).0 in
    grind (arith, front, back)

in_two : (test : ℕ → Bool) (id : ℕ) (rows : List Row) → AreOrdered rows → test id ≡ false
    → with_id test (before id rows) ++ with_id test (behind id rows) ≡ with_id test rows
in_two test id rows ordered fails =
    let p : ℕ → Bool = λ i. nat_lt i id && test i in
    let q : ℕ → Bool = λ i. nat_lt id i && test i in
    let same : (i : ℕ) → (p i || q i) ≡ test i =
    λ i. pick_if (nat_lt i id) (nat_lt id i) (test i) (λ a b. ap test (same_number i id a b) ∙ fails) in
    ap (λ l. l ++ with_id test (behind id rows)) (picked_twice test (λ i. nat_lt i id) rows)
    ∙ ap (λ l. with_id p rows ++ l) (picked_twice test (λ i. nat_lt id i) rows)
    ∙ joined p q rows ordered (λ i j a b. less_and i j id (test i) (test j) a b)
    ∙ ap (λ (t : ℕ → Bool). with_id t rows) (λ k i. same i k)

placed_same : (test : ℕ → Bool) (id : ℕ) (new rows : List Row) → AreOf id new → AreOrdered rows → test id ≡ false → with_id test (placed_rows id new rows) ≡ with_id test rows
placed_same test id new rows own ordered fails =
    picked_append test (before id rows ++ new) (behind id rows)
    ∙ ap (λ l. l ++ with_id test (behind id rows)) (picked_append test (before id rows) new)
    ∙ ap (λ l. (with_id test (before id rows) ++ l) ++ with_id test (behind id rows)) (picked_none test id new own fails)
    ∙ ap (λ l. l ++ with_id test (behind id rows)) (append-nil (with_id test (before id rows)))
    ∙ in_two test id rows ordered fails

placed_if_same : (b : Bool) (test : ℕ → Bool) (id : ℕ) (new rows : List Row) → AreOf id new → AreOrdered rows → test id ≡ false
    → with_id test (if b then placed_rows id new rows else rows) ≡ with_id test rows
placed_if_same true test id new rows own ordered fails = placed_same test id new rows own ordered fails
placed_if_same false test id new rows own ordered fails = refl

placed_if_ordered : (b : Bool) (id : ℕ) (new rows : List Row) → AreOf id new → AreOrdered rows → AreOrdered (if b then placed_rows id new rows else rows)
placed_if_ordered true id new rows own ordered = ordered-placed id new rows own ordered
placed_if_ordered false id new rows own ordered = ordered

itself : (n : ℕ) → (n == n) ≡ true
itself n = grind arith

-- None of the replaced records passes the test.
abbrev Misses : (ℕ → Bool) → List Alteration → Type 0
Misses test over = (id : ℕ) → is_altered over id ≡ true → test id ≡ false

altered_same : (test : ℕ → Bool) (m : ℕ) (over : List Alteration) (rows : List Row) → Misses test over → AreOwn over → AreOrdered rows
    → with_id test (altered_rows m over rows) ≡ with_id test rows
altered_same test m [] rows misses own ordered = refl
altered_same test m (a ∷ more) rows misses own ordered =
    let fails : test a.id ≡ false = misses a.id (or_left (a.id == a.id) (is_altered more a.id) (itself a.id)) in
    altered_same test m more (if model_of_id a.id == m then placed_rows a.id a.rows rows else rows)
    (λ id h. misses id (or_right (a.id == id) (is_altered more id) h)) own.1
    (placed_if_ordered (model_of_id a.id == m) a.id a.rows rows own.0 ordered)
    ∙ placed_if_same (model_of_id a.id == m) test a.id a.rows rows own.0 ordered fails

misses_it : (b : Bool) → b ≡ true → not b ≡ false
misses_it true h = refl
misses_it false h = absurd cc

tables_same : (u : ℕ → Bool) (over : List Alteration) (m : ℕ) (tables : List (List Row)) → AreOwn over → AreTables tables
    → map (with_ids (is_outside over)) (map (rows_at u) (overlaid_from m over tables)) ≡ map (with_ids (is_outside over)) (map (rows_at u) tables)
tables_same u over m [] own rising = refl
tables_same u over m (t ∷ tables) own rising =
    let here : with_ids (is_outside over) (rows_at u (altered_rows m over t)) ≡ with_ids (is_outside over) (rows_at u t) =
    sym (rows_at_with_id u (is_outside over) (altered_rows m over t))
    ∙ ap (rows_at u) (altered_same (is_outside over) m over t (λ id h. misses_it (is_altered over id) h) own (ordered_if_rising t rising.0))
    ∙ rows_at_with_id u (is_outside over) t in
    rw (here, tables_same u over (m + 1) tables own rising.1) refl

-- The records that stay are the same under each assignment.
pub stay_same : (u : ℕ → Bool) (over : List Alteration) (tables : List (List Row)) → AreOwn over → AreTables tables
    → map (with_ids (is_outside over)) (map (rows_at u) (overlaid over tables)) ≡ map (with_ids (is_outside over)) (map (rows_at u) tables)
stay_same u over tables own rising = tables_same u over 0 tables own rising

-- The rows of a model in a sound state.
abbrev pub OfModel : ℕ → List Row → Type 0
OfModel m rows = AllByRecursion (λ (r : Row). model_of_id r.id ≡ m) rows

abbrev pub AreSmall : List Row → Type 0
AreSmall rows = AllByRecursion (λ (r : Row). r.id < 2 ^ 124) rows

id_small : (id m : ℕ) → is_id_of id m ≡ true → id < 2 ^ 124
id_small id m is = grind (arith, nat_tests, is)

of_model_from : (next base m : ℕ) (tables : List (List Row)) → AreSound next base tables → OfModel (base + m) (rows_of tables m)
of_model_from next base zero [] s = tt
of_model_from next base (suc m) [] s = tt
of_model_from next base zero (t ∷ tables) s =
    all-mapped (λ (r : Row). IsMade base next r.id) (λ (r : Row). model_of_id r.id ≡ base + 0) t (λ r made. omega (arith, made.of_model)) s.1
of_model_from next base (suc m) (t ∷ tables) s =
    all-mapped (λ (r : Row). model_of_id r.id ≡ (base + 1) + m) (λ (r : Row). model_of_id r.id ≡ base + suc m) (rows_of tables m)
    (λ r made. omega (arith, made)) (of_model_from next (base + 1) m tables s.2)

pub of_model : (s : State) (m : ℕ) → IsSound s → OfModel m (rows_of s.tables m)
of_model s m sound =
    all-mapped (λ (r : Row). model_of_id r.id ≡ 0 + m) (λ (r : Row). model_of_id r.id ≡ m) (rows_of s.tables m)
    (λ r made. omega (arith, made)) (of_model_from s.number 0 m s.tables sound.tables)

small_from : (next base m : ℕ) (tables : List (List Row)) → AreSound next base tables → AreSmall (rows_of tables m)
small_from next base zero [] s = tt
small_from next base (suc m) [] s = tt
small_from next base zero (t ∷ tables) s =
    all-mapped (λ (r : Row). IsMade base next r.id) (λ (r : Row). r.id < 2 ^ 124) t (λ r made. id_small r.id base made.is_one) s.1
small_from next base (suc m) (t ∷ tables) s = small_from next (base + 1) m tables s.2

pub are_small : (s : State) (m : ℕ) → IsSound s → AreSmall (rows_of s.tables m)
are_small s m sound = small_from s.number 0 m s.tables sound.tables

pub or_cases : (P : Type 0) (b c : Bool) → (b ≡ true → P) → (c ≡ true → P) → (b || c) ≡ true → P
or_cases P true c f g h = f refl
or_cases P false c f g h = g h

-- The model of a replaced record has a replaced record.
pub altered_alters : (over : List Alteration) (id : ℕ) → is_altered over id ≡ true → alters (model_of_id id) over ≡ true
altered_alters [] id h = absurd cc
altered_alters (a ∷ more) id h =
    or_cases (alters (model_of_id id) (a ∷ more) ≡ true) (a.id == id) (is_altered more id)
    (λ e. let same : a.id ≡ id = grind (arith, e) in
    or_left (model_of_id a.id == model_of_id id) (alters (model_of_id id) more) (ap (λ n. model_of_id n == model_of_id id) same ∙ itself (model_of_id id)))
    (λ e. or_right (model_of_id a.id == model_of_id id) (alters (model_of_id id) more) (altered_alters more id e)) h

-- If some of the rows pass the test, some of the longer list do.
pub any_left : (q : Row → Bool) (xs ys : List Row) → list_any q xs ≡ true → list_any q (xs ++ ys) ≡ true
any_left q [] ys h = absurd cc
any_left q (x ∷ xs) ys h =
    or_cases ((q x || list_any q (xs ++ ys)) ≡ true) (q x) (list_any q xs)
    (λ e. or_left (q x) (list_any q (xs ++ ys)) e) (λ e. or_right (q x) (list_any q (xs ++ ys)) (any_left q xs ys e)) h

pub any_right : (q : Row → Bool) (xs ys : List Row) → list_any q ys ≡ true → list_any q (xs ++ ys) ≡ true
any_right q [] ys h = h
any_right q (x ∷ xs) ys h = or_right (q x) (list_any q (xs ++ ys)) (any_right q xs ys h)

any_parts : (P : Type 0) (q : Row → Bool) (xs ys : List Row) → (list_any q xs ≡ true → P) → (list_any q ys ≡ true → P) → list_any q (xs ++ ys) ≡ true → P
any_parts P q [] ys f g h = g h
any_parts P q (x ∷ xs) ys f g h =
    or_cases P (q x) (list_any q (xs ++ ys)) (λ e. f (or_left (q x) (list_any q xs) e))
    (λ e. any_parts P q xs ys (λ k. f (or_right (q x) (list_any q xs) k)) g e) h

any_if : (q : Row → Bool) (b : Bool) (r : Row) (xs ys : List Row) → (list_any q xs ≡ true → list_any q ys ≡ true) → list_any q (if b then r ∷ xs else xs) ≡ true → (q r || list_any q ys) ≡ true
any_if q true r xs ys f h =
    or_cases ((q r || list_any q ys) ≡ true) (q r) (list_any q xs) (λ e. or_left (q r) (list_any q ys) e) (λ e. or_right (q r) (list_any q ys) (f e)) h
any_if q false r xs ys f h = or_right (q r) (list_any q ys) (f h)

any_picked : (q : Row → Bool) (test : ℕ → Bool) (rows : List Row) → list_any q (with_id test rows) ≡ true → list_any q rows ≡ true
any_picked q test [] h = absurd cc
any_picked q test (r ∷ rows) h = any_if q (test r.id) r (with_id test rows) rows (any_picked q test rows) h

pub any_mapped : (p q : Row → Bool) (rows : List Row) → ((r : Row) → p r ≡ true → q r ≡ true) → list_any p rows ≡ true → list_any q rows ≡ true
any_mapped p q [] f h = absurd cc
any_mapped p q (r ∷ rows) f h =
    or_cases ((q r || list_any q rows) ≡ true) (p r) (list_any p rows)
    (λ e. or_left (q r) (list_any q rows) (f r e)) (λ e. or_right (q r) (list_any q rows) (any_mapped p q rows f e)) h

any_placed_if : (P : Type 0) (q : Row → Bool) (b : Bool) (id : ℕ) (new rows : List Row) → (list_any q rows ≡ true → P) → (list_any q new ≡ true → P)
    → list_any q (if b then placed_rows id new rows else rows) ≡ true → P
any_placed_if P q true id new rows f g h =
    any_parts P q (before id rows ++ new) (behind id rows)
    (λ e. any_parts P q (before id rows) new (λ k. f (any_picked q (λ i. nat_lt i id) rows k)) g e)
    (λ e. f (any_picked q (λ i. nat_lt id i) rows e)) h
any_placed_if P q false id new rows f g h = f h

-- If some row after the replacement passes the test, a replaced row does, or a row that was there
-- before.
any_altered : (P : Type 0) (q : Row → Bool) (tables : List (List Row)) (m : ℕ) (over : List Alteration) (rows : List Row)
    → (list_any q rows ≡ true → P) → (list_any q (alternatives_altered tables over) ≡ true → P) → list_any q (altered_rows m over rows) ≡ true → P
any_altered P q tables m [] rows f g h = f h
any_altered P q tables m (a ∷ more) rows f g h =
    let old : List Row = alternatives a.id (rows_of tables (model_of_id a.id)) in
    any_altered P q tables m more (if model_of_id a.id == m then placed_rows a.id a.rows rows else rows)
    (λ e. any_placed_if P q (model_of_id a.id == m) a.id a.rows rows f
    (λ k. g (any_right q old (a.rows ++ alternatives_altered tables more) (any_left q a.rows (alternatives_altered tables more) k))) e)
    (λ e. g (any_right q old (a.rows ++ alternatives_altered tables more) (any_right q a.rows (alternatives_altered tables more) e))) h

first_if : (q : Row → Bool) (b : Bool) (r : Row) (xs : List Row) → (b && q r) ≡ true → list_any q (if b then r ∷ xs else xs) ≡ true
first_if q true r xs h = or_left (q r) (list_any q xs) h
first_if q false r xs h = absurd cc

later_if : (q : Row → Bool) (b : Bool) (r : Row) (xs : List Row) → list_any q xs ≡ true → list_any q (if b then r ∷ xs else xs) ≡ true
later_if q true r xs h = or_right (q r) (list_any q xs) h
later_if q false r xs h = h

any_alternatives : (q : Row → Bool) (id : ℕ) (rows : List Row) → list_any (λ r. (r.id == id) && q r) rows ≡ true → list_any q (alternatives id rows) ≡ true
any_alternatives q id [] h = absurd cc
any_alternatives q id (r ∷ rows) h =
    or_cases (list_any q (alternatives id (r ∷ rows)) ≡ true) ((r.id == id) && q r) (list_any (λ r. (r.id == id) && q r) rows)
    (λ e. first_if q (r.id == id) r (alternatives id rows) e)
    (λ e. later_if q (r.id == id) r (alternatives id rows) (any_alternatives q id rows e)) h

-- The rows of each replaced record before the replacement are among the replaced rows.
any_named : (q : Row → Bool) (tables : List (List Row)) (over : List Alteration) (id : ℕ) → is_altered over id ≡ true
    → list_any q (alternatives id (rows_of tables (model_of_id id))) ≡ true → list_any q (alternatives_altered tables over) ≡ true
any_named q tables [] id is h = absurd cc
any_named q tables (a ∷ more) id is h =
    let old : List Row = alternatives a.id (rows_of tables (model_of_id a.id)) in
    let rest : List Row = a.rows ++ alternatives_altered tables more in
    or_cases (list_any q (old ++ rest) ≡ true) (a.id == id) (is_altered more id)
    (λ e. let same : id ≡ a.id = grind (arith, e) in
    any_left q old rest (subst (λ i. list_any q (alternatives i (rows_of tables (model_of_id i))) ≡ true) same h))
    (λ e. any_right q old rest (any_right q a.rows (alternatives_altered tables more) (any_named q tables more id e h))) is

-- The model of a record that has a row.
any_model : (q : Row → Bool) (m id : ℕ) (rows : List Row) → OfModel m rows → list_any (λ r. (r.id == id) && q r) rows ≡ true → model_of_id id ≡ m
any_model q m id [] all h = absurd cc
any_model q m id (r ∷ rows) all h =
    or_cases (model_of_id id ≡ m) ((r.id == id) && q r) (list_any (λ r. (r.id == id) && q r) rows)
    (λ e. let here : (r.id == id) ≡ true = (and_parts (r.id == id) (q r) e).0 in
    let same : id ≡ r.id = grind (arith, here) in ap model_of_id same ∙ all.0)
    (λ e. any_model q m id rows all.1 e) h

all_of : (m id : ℕ) (rows : List Row) → AreOf id rows → model_of_id id ≡ m → OfModel m rows
all_of m id [] own is = tt
all_of m id (r ∷ rows) own is = (ap model_of_id own.0 ∙ is, all_of m id rows own.1 is)

placed_if_model : (m id : ℕ) (b : Bool) (new rows : List Row) → (model_of_id id == m) ≡ b → AreOf id new → OfModel m rows → OfModel m (if b then placed_rows id new rows else rows)
placed_if_model m id true new rows e own all =
    let is : model_of_id id ≡ m = grind (arith, e) in
    let P = λ (r : Row). model_of_id r.id ≡ m in
    all-append P (before id rows ++ new) (behind id rows)
    (all-append P (before id rows) new (all-with_id P (λ i. nat_lt i id) rows all) (all_of m id new own is))
    (all-with_id P (λ i. nat_lt id i) rows all)
placed_if_model m id false new rows e own all = all

pub altered_model : (m : ℕ) (over : List Alteration) (rows : List Row) → AreOwn over → OfModel m rows → OfModel m (altered_rows m over rows)
altered_model m [] rows own all = all
altered_model m (a ∷ more) rows own all =
    altered_model m more (if model_of_id a.id == m then placed_rows a.id a.rows rows else rows) own.1
    (placed_if_model m a.id (model_of_id a.id == m) a.rows rows refl own.0 all)

-- A row of a replaced record that passes `row_refers`, in the table before or after, is among the
-- replaced rows.
abbrev pub cell_refers : ℕ → (Option (Option ℕ) → Bool) → Row → Bool
cell_refers f x r = x (referred_by (slice_get r.cells f))

pub found_before : (tables : List (List Row)) (over : List Alteration) (m f : ℕ) (x : Option (Option ℕ) → Bool) (id : ℕ) → OfModel m (rows_of tables m) → is_altered over id ≡ true
    → list_any (λ r. (r.id == id) && cell_refers f x r) (rows_of tables m) ≡ true → list_any (row_refers m f x) (alternatives_altered tables over) ≡ true
found_before tables over m f x id all is h =
    let model : model_of_id id ≡ m = any_model (cell_refers f x) m id (rows_of tables m) all h in
    let there : list_any (λ r. (r.id == id) && row_refers m f x r) (rows_of tables m) ≡ true =
    any_mapped (λ r. (r.id == id) && cell_refers f x r) (λ r. (r.id == id) && row_refers m f x r) (rows_of tables m)
    (λ r k. let parts = and_parts (r.id == id) (cell_refers f x r) k in
    let same : r.id ≡ id = grind (arith, parts.0) in
    let own : (model_of_id r.id == m) ≡ true = ap (λ i. model_of_id i == m) same ∙ ap (λ n. n == m) model ∙ itself m in
    and_from (r.id == id) (row_refers m f x r) parts.0 (and_from (model_of_id r.id == m) (cell_refers f x r) own parts.1)) h in
    any_named (row_refers m f x) tables over id is
    (subst (λ n. list_any (row_refers m f x) (alternatives id (rows_of tables n)) ≡ true) (sym model)
    (any_alternatives (row_refers m f x) id (rows_of tables m) there))

pub found_behind : (tables : List (List Row)) (over : List Alteration) (m f : ℕ) (x : Option (Option ℕ) → Bool) (id : ℕ) → AreOwn over → OfModel m (rows_of tables m) → is_altered over id ≡ true
    → list_any (λ r. (r.id == id) && cell_refers f x r) (altered_rows m over (rows_of tables m)) ≡ true → list_any (row_refers m f x) (alternatives_altered tables over) ≡ true
found_behind tables over m f x id own all is h =
    let q = λ (r : Row). (r.id == id) && cell_refers f x r in
    let rows : List Row = rows_of tables m in
    let model : model_of_id id ≡ m = any_model (cell_refers f x) m id (altered_rows m over rows) (altered_model m over rows own all) h in
    any_altered (list_any (row_refers m f x) (alternatives_altered tables over) ≡ true) q tables m over rows
    (λ e. found_before tables over m f x id all is e)
    (λ e. any_mapped q (row_refers m f x) (alternatives_altered tables over)
    (λ r k. let parts = and_parts (r.id == id) (cell_refers f x r) k in
    let same : r.id ≡ id = grind (arith, parts.0) in
    let mine : (model_of_id r.id == m) ≡ true = ap (λ i. model_of_id i == m) same ∙ ap (λ n. n == m) model ∙ itself m in
    and_from (model_of_id r.id == m) (cell_refers f x r) mine parts.1) e) h
