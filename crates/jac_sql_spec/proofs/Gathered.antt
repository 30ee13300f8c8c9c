-- Rows that are read in order make tables.
use Rattle.std.proofs.Common.{◌≡◌, refl, sym, ap, ap₂, subst, ◌∙◌, ◌⊎◌, inl, inr, ℕ, zero, suc, pos, ◌+◌, ◌<◌, ◌≤◌, ◌==◌, Bool, true, false, cond, List, [], ◌∷◌, ◌++◌, map, length, drop, get_or, drop-cons, append_assoc, append-nil, length-append, Some, None, Option, IsSomeAnd, slice_get, arith}
use Rattle.std.specs.Prelude.{⊤}
use Rattle.std.specs.List.{AllByRecursion}
use Rattle.std.proofs.lemmas.List.{map-append, drop_all}
use Rattle.std.proofs.lemmas.Option.{slice_get_within}
use Rattle.std.proofs.lemmas.Bool.Decides.{nat_tests}
use Rattle.sqlite_value.specs.Order.{Row as Values, column}
use Rattle.jac_world.specs.World.{IsApart}
use Rattle.jac_rows.specs.Apart.{IsBefore}
use Rattle.jac_rows.specs.Good.{ModelShape, IsRecord, IsShaped, IsNext, AreRising, AreGuarded}
use Rattle.jac_rows.specs.Tables.{rows_of}
use Rattle.jac_rows.specs.declared.row.Row.{Row}
use Rattle.jac_rows.specs.declared.state.State.{State}
use Rattle.jac_keep.specs.Records.{alternatives, with_id}
use Rattle.jac_keep.specs.Schema.{empties}
use Rattle.jac_keep.proofs.PlacingLaws.{with_id-append, itself}
use Rattle.jac_keep.proofs.SchemaLaws.{empties_fit, length_empties}
use Rattle.jac_keep.proofs.SoundLaws.{all-append, all-mapped}
use Rattle.jac_sql_spec.specs.Facts.{Fact, fact_of, count_with, none_yet, numbered_facts, facts_from, facts}
use Rattle.jac_sql_spec.specs.Spelled.{IsSpelled}
use Rattle.jac_sql_spec.specs.Told.{natural_in, bytes_in_value, AreSpelled}
use Rattle.jac_sql_spec.specs.Testing.{fact_shown, IsLineShown, MovesOn, IsNextLine, ReadsOn, AreLinesOf}
use Rattle.jac_sql_spec.proofs.Kept.{empty_spelled}

-- ---- tables with one more row at the end of a model's table

abbrev pushed : ℕ → Row → List (List Row) → List (List Row)
pushed model r [] = []
pushed zero r (t ∷ ts) = (t ++ r ∷ []) ∷ ts
pushed (suc model) r (t ∷ ts) = t ∷ pushed model r ts

abbrev AreEmpty : List (List Row) → Type 0
AreEmpty [] = ⊤
AreEmpty (t ∷ ts) = (t ≡ []) × AreEmpty ts

-- No model after this one has rows.
abbrev AreEmptyBehind : ℕ → List (List Row) → Type 0
AreEmptyBehind model [] = ⊤
AreEmptyBehind zero (t ∷ ts) = AreEmpty ts
AreEmptyBehind (suc model) (t ∷ ts) = AreEmptyBehind model ts

long_pushed : (k : ℕ) (r : Row) (ts : List (List Row)) → length (pushed k r ts) ≡ length ts
long_pushed k r [] = refl
long_pushed zero r (t ∷ ts) = refl
long_pushed (suc k) r (t ∷ ts) = ap suc (long_pushed k r ts)

rows_pushed : (k : ℕ) (r : Row) (ts : List (List Row)) → k < length ts → rows_of (pushed k r ts) k ≡ rows_of ts k ++ r ∷ []
rows_pushed k r [] within = absurd (let long : length {A = List Row} [] ≡ 0 = refl in omega (arith, within, long))
rows_pushed zero r (t ∷ ts) within = refl
rows_pushed (suc k) r (t ∷ ts) within = rows_pushed k r ts (let long : length (t ∷ ts) ≡ suc (length ts) = refl in omega (arith, within, long))

behind_pushed : (k : ℕ) (r : Row) (ts : List (List Row)) → AreEmptyBehind k ts → AreEmptyBehind k (pushed k r ts)
behind_pushed k r [] empty = tt
behind_pushed zero r (t ∷ ts) empty = empty
behind_pushed (suc k) r (t ∷ ts) empty = behind_pushed k r ts empty

spelled_pushed : (k : ℕ) (r : Row) (ts : List (List Row)) → IsSpelled r → AreSpelled ts → AreSpelled (pushed k r ts)
spelled_pushed k r [] is are = tt
spelled_pushed zero r (t ∷ ts) is are = (all-append IsSpelled t (r ∷ []) are.0 (is, tt), are.1)
spelled_pushed (suc k) r (t ∷ ts) is are = (are.0, spelled_pushed k r ts is are.1)

-- ---- the facts of one more row

abbrev counts : List Row → (ℕ → ℕ) → ℕ → ℕ
counts [] c = c
counts (r ∷ rs) c = counts rs (count_with r.id c)

numbered-append : (model : ℕ) (c : ℕ → ℕ) (xs ys : List Row) → numbered_facts model c (xs ++ ys) ≡ numbered_facts model c xs ++ numbered_facts model (counts xs c) ys
numbered-append model c [] ys = refl
numbered-append model c (x ∷ xs) ys = ap (λ l. fact_of model (c x.id) x ∷ l) (numbered-append model (count_with x.id c) xs ys)

no_facts : (first : ℕ) (ts : List (List Row)) → AreEmpty ts → facts_from first ts ≡ []
no_facts first [] empty = refl
no_facts first (t ∷ ts) empty = ap₂ (λ l fs. numbered_facts first none_yet l ++ fs) empty.0 (no_facts (first + 1) ts empty.1)

-- The number of a record's next alternative is how many of the record's alternatives the table has.
pushed_facts : (first k model : ℕ) (r : Row) (ts : List (List Row)) → model ≡ first + k → k < length ts → AreEmptyBehind k ts
    → facts_from first (pushed k r ts) ≡ facts_from first ts ++ fact_of model (counts (rows_of ts k) none_yet r.id) r ∷ []
pushed_facts first k model r [] is within empty = absurd (let long : length {A = List Row} [] ≡ 0 = refl in omega (arith, within, long))
pushed_facts first zero model r (t ∷ ts) is within empty =
    let same : first ≡ model = omega (arith, is) in
    let none = no_facts (first + 1) ts empty in
    let nt = numbered_facts first none_yet t in
    ap₂ ◌++◌ (numbered-append first none_yet t (r ∷ [])) none ∙ append-nil _
    ∙ ap (λ m. nt ++ fact_of m (counts t none_yet r.id) r ∷ []) same
    ∙ ap (λ l. l ++ fact_of model (counts t none_yet r.id) r ∷ []) (sym (append-nil nt) ∙ ap (λ fs. nt ++ fs) (sym none))
pushed_facts first (suc k) model r (t ∷ ts) is within empty =
    let long : length (t ∷ ts) ≡ suc (length ts) = refl in
    let nt = numbered_facts first none_yet t in
    ap (λ fs. nt ++ fs) (pushed_facts (first + 1) k model r ts (omega (arith, is)) (omega (arith, within, long)) empty)
    ∙ sym (append_assoc nt (facts_from (first + 1) ts) (fact_of model (counts (rows_of ts k) none_yet r.id) r ∷ []))

counts_are : (rows : List Row) (c : ℕ → ℕ) (id : ℕ) → counts rows c id ≡ c id + length (alternatives id rows)
counts_are [] c id = let none : length {A = Row} [] ≡ 0 = refl in omega (arith, none)
counts_are (r ∷ rs) c id = go (r.id == id) refl (counts_are rs (count_with r.id c) id)
  where
    go : (b : Bool) → (r.id == id) ≡ b → counts rs (count_with r.id c) id ≡ count_with r.id c id + length (alternatives id rs)
        → counts rs (count_with r.id c) id ≡ c id + length (cond b (r ∷ alternatives id rs) (alternatives id rs))
    go true e more =
        let one : count_with r.id c id ≡ c id + 1 = ap (λ t. cond t (c id + 1) (c id)) (turned id r.id ∙ e) in
        let long : length (r ∷ alternatives id rs) ≡ suc (length (alternatives id rs)) = refl in
        omega (arith, more, one, long)
      where
        turned : (x y : ℕ) → (x == y) ≡ (y == x)
        turned x y = grind (arith, nat_tests)
    go false e more =
        let none : count_with r.id c id ≡ c id = ap (λ t. cond t (c id + 1) (c id)) (turned id r.id ∙ e) in
        omega (arith, more, none)
      where
        turned : (x y : ℕ) → (x == y) ≡ (y == x)
        turned x y = grind (arith, nat_tests)

-- ---- a row at the end of a table is in its place

abbrev Ends : Row → Row → Type 0
Ends r x = (x.id ≤ r.id) × (x.id ≡ r.id → IsApart x.guard r.guard)

before_end : (x r : Row) (ys : List Row) → Ends r x → IsBefore (λ (y : Row). y.id) (λ y. y.guard) x ys → IsBefore (λ (y : Row). y.id) (λ y. y.guard) x (ys ++ r ∷ [])
before_end x r [] ends is = (ends.0, ends.1, tt)
before_end x r (y ∷ ys) ends is = (is.0, is.1, before_end x r ys ends is.2)

rising_end : (r : Row) (xs : List Row) → AllByRecursion (Ends r) xs → AreRising xs → AreRising (xs ++ r ∷ [])
rising_end r [] all rising = (tt, tt)
rising_end r (x ∷ xs) all rising = (before_end x r xs all.0 rising.0, rising_end r xs all.1 rising.1)

-- A property of all guards of a record holds of each row with the record's id.
of_id : (P : List (ℕ × Bool) → Type 0) (id : ℕ) (rows : List Row) → AllByRecursion P (map (λ (r : Row). r.guard) (alternatives id rows)) → AllByRecursion (λ (r : Row). r.id ≡ id → P r.guard) rows
of_id P id [] all = tt
of_id P id (r ∷ rs) all = go (r.id == id) refl (of_id P id rs) all
  where
    go : (b : Bool) → (r.id == id) ≡ b → (AllByRecursion P (map (λ (x : Row). x.guard) (alternatives id rs)) → AllByRecursion (λ (x : Row). x.id ≡ id → P x.guard) rs)
        → AllByRecursion P (map (λ (x : Row). x.guard) (cond b (r ∷ alternatives id rs) (alternatives id rs))) → AllByRecursion (λ (x : Row). x.id ≡ id → P x.guard) (r ∷ rs)
    go true e more are = (λ same. are.0, more are.1)
    go false e more are = ((λ same. absurd (grind (arith, nat_tests, same, e))), more are)

both_ends : (r : Row) (rows : List Row) → AllByRecursion (λ (x : Row). x.id ≤ r.id) rows → AllByRecursion (λ (x : Row). x.id ≡ r.id → IsApart x.guard r.guard) rows → AllByRecursion (Ends r) rows
both_ends r [] low apart = tt
both_ends r (x ∷ xs) low apart = ((low.0, apart.0), both_ends r xs low.1 apart.1)

good_pushed : (shapes : List ModelShape) (number first k model : ℕ) (r : Row) (ts : List (List Row)) → model ≡ first + k → IsRecord shapes model number r.id r.cells → AllByRecursion (Ends r) (rows_of ts k)
    → AreGuarded shapes number first ts → AreGuarded shapes number first (pushed k r ts)
good_pushed shapes number first k model r [] is one ends good = tt
good_pushed shapes number first zero model r (t ∷ ts) is one ends good =
    let same : model ≡ first = omega (arith, is) in (
      rising_end r t ends good.0,
      all-append (λ (x : Row). IsRecord shapes first number x.id x.cells) t (r ∷ []) good.1 (subst (λ m. IsRecord shapes m number r.id r.cells) same one, tt),
      good.2,
    )
good_pushed shapes number first (suc k) model r (t ∷ ts) is one ends good =
    (good.0, good.1, good_pushed shapes number (first + 1) k model r ts (omega (arith, is)) one ends good.2)

-- ---- moving on to another record

empty_rows : (k : ℕ) (ts : List (List Row)) → AreEmpty ts → rows_of ts k ≡ []
empty_rows zero [] empty = refl
empty_rows (suc k) [] empty = refl
empty_rows zero (t ∷ ts) empty = empty.0
empty_rows (suc k) (t ∷ ts) empty = empty_rows k ts empty.1

rows_behind : (m k : ℕ) (ts : List (List Row)) → m < k → AreEmptyBehind m ts → rows_of ts k ≡ []
rows_behind m zero ts less empty = absurd (omega (arith, less))
rows_behind m (suc k) [] less empty = refl
rows_behind zero (suc k) (t ∷ ts) less empty = empty_rows k ts empty
rows_behind (suc m) (suc k) (t ∷ ts) less empty = rows_behind m k ts (omega (arith, less)) empty

empty_behind : (k : ℕ) (ts : List (List Row)) → AreEmpty ts → AreEmptyBehind k ts
empty_behind k [] empty = tt
empty_behind zero (t ∷ ts) empty = empty.1
empty_behind (suc k) (t ∷ ts) empty = empty_behind k ts empty.1

further_behind : (m k : ℕ) (ts : List (List Row)) → m < k → AreEmptyBehind m ts → AreEmptyBehind k ts
further_behind m k [] less empty = tt
further_behind m zero (t ∷ ts) less empty = absurd (omega (arith, less))
further_behind zero (suc k) (t ∷ ts) less empty = empty_behind k ts empty
further_behind (suc m) (suc k) (t ∷ ts) less empty = further_behind m k ts (omega (arith, less)) empty

none_above : (id other : ℕ) (rows : List Row) → id < other → AllByRecursion (λ (r : Row). r.id ≤ id) rows → alternatives other rows ≡ []
none_above id other [] less low = refl
none_above id other (r ∷ rs) less low = go (r.id == other) refl (none_above id other rs less low.1)
  where
    go : (b : Bool) → (r.id == other) ≡ b → alternatives other rs ≡ [] → cond b (r ∷ alternatives other rs) (alternatives other rs) ≡ []
    go true e more = absurd (let at = low.0 in grind (arith, nat_tests, e, less, at))
    go false e more = more

-- ---- the loop

-- The rows that were read so far are those of tables, and the last record has alternatives of these
-- guards.
pub record Gathered (shapes : List ModelShape) (number : ℕ) (found : List Values) (at model id : ℕ) (guards : List (List (ℕ × Bool))) : Type 0 where
  pub tables : List (List Row)
  pub long : length tables ≡ length shapes
  pub good : AreGuarded shapes number 0 tables
  pub spelled : AreSpelled tables
  pub read : facts tables ++ map fact_shown (drop at found) ≡ map fact_shown found
  pub lines : AllByRecursion (λ v. IsLineShown v (fact_shown v)) (drop at found) → AllByRecursion (λ v. IsLineShown v (fact_shown v)) found
  pub behind : AreEmptyBehind model tables
  pub below : AllByRecursion (λ (r : Row). r.id ≤ id) (rows_of tables model)
  pub last : map (λ (r : Row). r.guard) (alternatives id (rows_of tables model)) ≡ guards

are_empty : (n : ℕ) → AreEmpty (empties n)
are_empty zero = tt
are_empty (suc n) = (refl, are_empty n)

pub gathered_start : (shapes : List ModelShape) (number : ℕ) (found : List Values) → IsNext number → Gathered shapes number found 0 0 0 []
gathered_start shapes number found next =
    let n = length shapes in
    let none : rows_of (empties n) 0 ≡ [] = empty_rows 0 (empties n) (are_empty n) in
    record {
      tables = empties n;
      long = length_empties n;
      good = (empties_fit shapes (record { tables = []; number = number }) next).good.1;
      spelled = empty_spelled n;
      read = ap (λ fs. fs ++ map fact_shown found) (no_facts 0 (empties n) (are_empty n));
      lines = λ all. all;
      behind = empty_behind 0 (empties n) (are_empty n);
      below = subst (AllByRecursion (λ (r : Row). r.id ≤ 0)) (sym none) tt;
      last = ap (λ rows. map (λ (r : Row). r.guard) (alternatives 0 rows)) none;
    }

module _ (shapes : List ModelShape) (number : ℕ) (found : List Values) (at : ℕ) where
  gathered_moved : (model id : ℕ) (guards : List (List (ℕ × Bool))) (next_model next_id : ℕ) (before : List (List (ℕ × Bool))) → MovesOn model id guards next_model next_id before
      → Gathered shapes number found at model id guards → Gathered shapes number found at next_model next_id before
  gathered_moved model id guards next_model next_id before (inl same) so =
      subst (λ m. Gathered shapes number found at m next_id before) same.0
      (subst (λ i. Gathered shapes number found at model i before) same.1 (subst (Gathered shapes number found at model id) (sym same.2) so))
  gathered_moved model id guards next_model next_id before (inr (none, inl less)) so =
      let empty = rows_behind model next_model so.tables less so.behind in
      record {
        tables = so.tables;
        long = so.long;
        good = so.good;
        spelled = so.spelled;
        read = so.read;
        lines = so.lines;
        behind = further_behind model next_model so.tables less so.behind;
        below = subst (AllByRecursion (λ (r : Row). r.id ≤ next_id)) (sym empty) tt;
        last = ap (λ rows. map (λ (r : Row). r.guard) (alternatives next_id rows)) empty ∙ sym none;
      }
  gathered_moved model id guards next_model next_id before (inr (none, inr later)) so = record {
    tables = so.tables;
    long = so.long;
    good = so.good;
    spelled = so.spelled;
    read = so.read;
    lines = so.lines;
    behind = subst (λ m. AreEmptyBehind m so.tables) later.0 so.behind;
    below = subst (λ m. AllByRecursion (λ (r : Row). r.id ≤ next_id) (rows_of so.tables m)) later.0
        (all-mapped (λ (r : Row). r.id ≤ id) (λ r. r.id ≤ next_id) (rows_of so.tables model) (λ r low. let less = later.1 in omega (arith, low, less)) so.below);
    last = subst (λ m. map (λ (r : Row). r.guard) (alternatives next_id (rows_of so.tables m)) ≡ before) later.0
        (ap (map (λ (r : Row). r.guard)) (none_above id next_id (rows_of so.tables model) later.1 so.below) ∙ sym none);
  }

  known_model : (P : ModelShape → Type 0) (found_shape : Option ModelShape) (model : ℕ) → slice_get shapes model ≡ found_shape → IsSomeAnd found_shape P → model < length shapes
  known_model P None model is has = absurd has
  known_model P (Some s) model is has = slice_get_within shapes model s is

  shown_fact : (v : Values) (f : Fact) → IsLineShown v f → fact_shown v ≡ f
  shown_fact v f is = λ i. record { model = natural_in (is.model i); jid = bytes_in_value (is.jid i); alt = natural_in (is.alt i); jvars = bytes_in_value (is.jvars i); body = bytes_in_value (is.body i) }

  gathered_line : (model id : ℕ) (before guards : List (List (ℕ × Bool))) (v : Values) → at < length found → v ≡ get_or found at v → IsNextLine shapes number model id before guards v
      → Gathered shapes number found at model id before → Gathered shapes number found (at + 1) model id guards
  gathered_line model id before guards v within item line so =
      let ts = so.tables in
      let rows = rows_of ts model in
      let row = line.row in
      let known : model < length ts = let k = known_model _ (slice_get shapes model) model refl line.is_record.fit in let long = so.long in omega (arith, k, long) in
      let next : suc at ≡ at + 1 = omega arith in
      let step : drop at found ≡ v ∷ drop (at + 1) found = drop-cons found at v within ∙ (λ i. sym item i ∷ drop (next i) found) in
      let here : model ≡ 0 + model = omega arith in
      let last = so.last in
      let alike : length (alternatives row.id rows) ≡ length before = ap (λ i. length (alternatives i rows)) line.same_id ∙ (long_map (alternatives id rows) ∙ ap length last) in
      let all_of_them = counts_are rows none_yet row.id in
      let count : counts rows none_yet row.id ≡ length before = omega (arith, all_of_them, alike) in
      let fact : fact_shown v ≡ fact_of model (counts rows none_yet row.id) row = shown_fact v (fact_of model (length before) row) line.shown ∙ ap (λ n. fact_of model n row) (sym count) in
      let more : facts (pushed model row ts) ≡ facts ts ++ fact_shown v ∷ [] = pushed_facts 0 model model row ts here known so.behind ∙ ap (λ f. facts ts ++ f ∷ []) (sym fact) in
      let is = rows_pushed model row ts known in
      let low : AllByRecursion (λ (r : Row). r.id ≤ row.id) rows = subst (λ i. AllByRecursion (λ (r : Row). r.id ≤ i) rows) (sym line.same_id) so.below in
      let apart : AllByRecursion (λ (x : Row). x.id ≡ row.id → IsApart x.guard row.guard) rows =
      subst (λ i. AllByRecursion (λ (x : Row). x.id ≡ i → IsApart x.guard row.guard) rows) (sym line.same_id)
      (of_id (λ g. IsApart g row.guard) id rows (subst (AllByRecursion (λ g. IsApart g row.guard)) (sym last) line.apart)) in
      record {
        tables = pushed model row ts;
        long = long_pushed model row ts ∙ so.long;
        good = good_pushed shapes number 0 model model row ts here line.is_record (both_ends row rows low apart) so.good;
        spelled = spelled_pushed model row ts line.spelled so.spelled;
        read = ap (λ fs. fs ++ map fact_shown (drop (at + 1) found)) more ∙ append_assoc (facts ts) (fact_shown v ∷ []) (map fact_shown (drop (at + 1) found))
            ∙ ap (λ vs. facts ts ++ map fact_shown vs) (sym step) ∙ so.read;
        lines = λ all. so.lines (subst (AllByRecursion (λ x. IsLineShown x (fact_shown x))) (sym step) (subst (IsLineShown v) (sym (shown_fact v (fact_of model (length before) row) line.shown)) line.shown, all));
        behind = behind_pushed model row ts so.behind;
        below = subst (AllByRecursion (λ (r : Row). r.id ≤ id)) (sym is) (all-append (λ (r : Row). r.id ≤ id) rows (row ∷ []) so.below (let same = line.same_id in omega (arith, same), tt));
        last = ap (λ l. map (λ (r : Row). r.guard) (alternatives id l)) is ∙ ap (map (λ (r : Row). r.guard)) (with_id-append (λ i. i == id) rows (row ∷ []) ∙ ap (λ l. alternatives id rows ++ l) own)
            ∙ map-append (λ (r : Row). r.guard) (alternatives id rows) (row ∷ []) ∙ ap (λ l. l ++ row.guard ∷ []) last ∙ sym line.guards_are;
      }
    where
      long_map : (rows : List Row) → length rows ≡ length (map (λ (r : Row). r.guard) rows)
      long_map [] = refl
      long_map (r ∷ rs) = ap suc (long_map rs)

      own : alternatives id (line.row ∷ []) ≡ line.row ∷ []
      own = ap (λ b. cond b (line.row ∷ []) []) (ap (λ i. i == id) line.same_id ∙ itself id)

  pub gathered_next : (model id : ℕ) (guards : List (List (ℕ × Bool))) (v : Values) (next_model next_id : ℕ) (next_guards : List (List (ℕ × Bool))) → at < length found → v ≡ get_or found at v
      → ReadsOn shapes number model id guards v next_model next_id next_guards → Gathered shapes number found at model id guards → Gathered shapes number found (at + 1) next_model next_id next_guards
  gathered_next model id guards v next_model next_id next_guards within item on so =
      gathered_line next_model next_id on.before next_guards v within item on.line (gathered_moved model id guards next_model next_id on.before on.moved so)

  pub gathered_end : (model id : ℕ) (guards : List (List (ℕ × Bool))) → length found ≤ at → Gathered shapes number found at model id guards → AreLinesOf shapes number found
  gathered_end model id guards behind so =
      let none = drop_all at found behind in
      record {
        tables = so.tables;
        long = so.long;
        good = so.good;
        spelled = so.spelled;
        read = sym (append-nil (facts so.tables)) ∙ ap (λ vs. facts so.tables ++ map fact_shown vs) (sym none) ∙ so.read;
        lines = so.lines (subst (AllByRecursion (λ v. IsLineShown v (fact_shown v))) (sym none) tt);
      }
