-- A record's alternatives are replaced: what each assignment shows afterwards, and that the tables
-- stay sound.
use Rattle.std.proofs.Common.{◌≡◌, ◌∙◌, sym, subst, refl, ap, arith, zero, suc, ℕ, ◌+◌, ◌<◌, ◌≤◌, ◌^◌, ◌==◌, ◌&&◌, nat_lt, Bool, true, false, if◌then◌else◌, List, [], ◌∷◌, ◌++◌, All, length, map}
use Rattle.std.proofs.lemmas.List.{append_assoc}
use Rattle.std.specs.Prelude.{slice_set}
use Rattle.std.specs.List.{AllByRecursion}
use Rattle.std.proofs.lemmas.Bool.{eqb-true}
use Rattle.jac_value.specs.Ids.{model_of_id}
use Rattle.jac_value.specs.declared.value.Value.{Value}
use Rattle.jac_world.specs.World.{holds, IsRisingBy, StartsAboveBy}
use Rattle.jac_rows.specs.Apart.{IsBefore}
use Rattle.jac_rows.specs.Good.{IsMade, AreTablesOf, ArePlainRows, AreRising, IsSound}
use Rattle.jac_rows.specs.Project.{rows_at, project_at}
use Rattle.jac_rows.proofs.Pushed.{rows_at-append}
use Rattle.jac_rows.specs.Tables.{rows_of}
use Rattle.jac_rows.specs.declared.plain.PlainRow.{PlainRow}
use Rattle.jac_rows.specs.declared.row.Row.{Row}
use Rattle.jac_rows.specs.declared.state.State.{State}
use Rattle.jac_plain.specs.Records.{plain_row, with_ids, with_row, changed_rows, without}
use Rattle.jac_keep.specs.declared.alteration.Alteration.{Alteration}
use Rattle.jac_keep.specs.declared.alteration.Change.{Change}
use Rattle.jac_keep.proofs.AlteringLaws.{are_of}
use Rattle.jac_keep.specs.Alterations.{altered_rows, overlaid_from}
use Rattle.jac_keep.specs.ChangedState.{state_with, changed_state}
use Rattle.jac_keep.specs.Records.{with_id, alternatives, before, behind, placed_rows, AreOf}
use Rattle.jac_keep.specs.Sound.{MayStand, AllStand}
use Rattle.jac_write.specs.Writes.{PlainTables, numbered_tables, Written, cells_at}

abbrev id_of : PlainRow → ℕ
id_of r = r.id

abbrev id_of_row : Row → ℕ
id_of_row r = r.id

abbrev guard_of_row : Row → List (ℕ × Bool)
guard_of_row r = r.guard

-- The rows after these replace a record's rows.
abbrev pub spliced : ℕ → List PlainRow → List PlainRow → List PlainRow
spliced id new rows = with_ids (λ i. nat_lt i id) rows ++ new ++ with_ids (λ i. nat_lt id i) rows

passing_if : (w : ℕ → Bool) (test : ℕ → Bool) (r : Row) (rs : List Row) (passes holding : Bool) → test r.id ≡ passes → holds w r.guard ≡ holding
    → rows_at w (with_id test rs) ≡ with_ids test (rows_at w rs)
    → rows_at w (with_id test (r ∷ rs)) ≡ with_ids test (rows_at w (r ∷ rs))
passing_if w test r rs true true p h e = rw (p, h) (rw p (ap (λ xs. plain_row r.id r.cells ∷ xs) e))
passing_if w test r rs true false p h e = rw (p, h) e
passing_if w test r rs false true p h e = rw (p, h) (rw p e)
passing_if w test r rs false false p h e = rw (p, h) e

-- The rows with ids that pass a test, in one world.
pub with_ids_at : (w : ℕ → Bool) (test : ℕ → Bool) (rows : List Row) → rows_at w (with_id test rows) ≡ with_ids test (rows_at w rows)
with_ids_at w test [] = refl
with_ids_at w test (r ∷ rows) = passing_if w test r rows (test r.id) (holds w r.guard) refl refl (with_ids_at w test rows)

placed_at : (w : ℕ → Bool) (id : ℕ) (new rows : List Row) → rows_at w (placed_rows id new rows) ≡ spliced id (rows_at w new) (rows_at w rows)
placed_at w id new rows =
    rows_at-append w (before id rows ++ new) (behind id rows)
    ∙ rw (rows_at-append w (before id rows) new, with_ids_at w (λ i. nat_lt i id) rows, with_ids_at w (λ i. nat_lt id i) rows) refl

abbrev one : ℕ → List Row → List Alteration
one id new = record { id = id; rows = new } ∷ []

altered_at : (w : ℕ → Bool) (id model : ℕ) (new t : List Row) (same : Bool) → (model_of_id id == model) ≡ same
    → rows_at w (altered_rows model (one id new) t) ≡ (if same then spliced id (rows_at w new) (rows_at w t) else rows_at w t)
altered_at w id model new t true s = rw s (placed_at w id new t)
altered_at w id model new t false s = rw s refl

past : (w : ℕ → Bool) (id k : ℕ) (new : List Row) (ts : List (List Row)) → model_of_id id < k → map (rows_at w) (overlaid_from k (one id new) ts) ≡ map (rows_at w) ts
past w id k new [] h = refl
past w id k new (t ∷ ts) h =
    let other : (model_of_id id == k) ≡ false = grind (arith, h) in
    rw (altered_at w id k new t false other, past w id (k + 1) new ts (omega (arith, h))) refl

set_from : (w : ℕ → Bool) (id k j : ℕ) (new : List Row) (ts : List (List Row)) → model_of_id id ≡ k + j
    → map (rows_at w) (overlaid_from k (one id new) ts) ≡ slice_set (map (rows_at w) ts) j (spliced id (rows_at w new) (rows_of (map (rows_at w) ts) j))
set_from w id k j new [] h = refl
set_from w id k zero new (t ∷ ts) h =
    let here : (model_of_id id == k) ≡ true = grind (arith, h) in
    rw (altered_at w id k new t true here, past w id (k + 1) new ts (omega (arith, h))) refl
set_from w id k (suc j) new (t ∷ ts) h =
    let other : (model_of_id id == k) ≡ false = grind (arith, h) in
    rw (altered_at w id k new t false other, set_from w id (k + 1) j new ts (omega (arith, h))) refl

-- What the tables show after the replacement.
pub tables_with : (w : ℕ → Bool) (id m : ℕ) (new : List Row) (s : State) → model_of_id id ≡ m
    → (project_at w (state_with id new s)).tables ≡ slice_set (project_at w s).tables m (spliced id (rows_at w new) (rows_of (project_at w s).tables m))
tables_with w id m new s h = set_from w id 0 m new s.tables (omega (arith, h))

pub shown_rows : (w : ℕ → Bool) (m : ℕ) (ts : List (List Row)) → rows_of (map (rows_at w) ts) m ≡ rows_at w (rows_of ts m)
shown_rows w m [] = refl
shown_rows w zero (t ∷ ts) = refl
shown_rows w (suc m) (t ∷ ts) = shown_rows w m ts

set_same : (m : ℕ) (ts : PlainTables) → slice_set ts m (rows_of ts m) ≡ ts
set_same m [] = refl
set_same zero (t ∷ ts) = refl
set_same (suc m) (t ∷ ts) = ap (λ xs. t ∷ xs) (set_same m ts)

-- The rows of a record as its cells.
named_if : (b : Bool) (id : ℕ) (r : Row) (rs : List PlainRow) (cs : List (List Value)) → r.id ≡ id → rs ≡ map (plain_row id) cs
    → (if b then plain_row r.id r.cells ∷ rs else rs) ≡ map (plain_row id) (if b then r.cells ∷ cs else cs)
named_if true id r rs cs e h = rw (e, h) refl
named_if false id r rs cs e h = h

pub rows_named : (w : ℕ → Bool) (id : ℕ) (rows : List Row) → AreOf id rows → rows_at w rows ≡ map (plain_row id) (cells_at w rows)
rows_named w id [] h = refl
rows_named w id (r ∷ rows) h = named_if (holds w r.guard) id r (rows_at w rows) (cells_at w rows) h.0 (rows_named w id rows h.1)

of_if : (id : ℕ) (r : Row) (rows : List Row) (b : Bool) → (r.id == id) ≡ b → AreOf id rows → AreOf id (if b then r ∷ rows else rows)
of_if id r rows true e h = (grind (arith, e), h)
of_if id r rows false e h = h

pub of-alternatives : (id : ℕ) (rows : List Row) → AreOf id (alternatives id rows)
of-alternatives id [] = tt
of-alternatives id (r ∷ rows) = of_if id r (alternatives id rows) (r.id == id) refl (of-alternatives id rows)

-- Plain rows with rising ids that are all greater than this one.
record Beyond (id : ℕ) (rows : List PlainRow) : Type 0 where
  low : with_ids (λ i. nat_lt i id) rows ≡ []
  here : with_ids (λ i. i == id) rows ≡ []
  high : with_ids (λ i. nat_lt id i) rows ≡ rows
  left : without id rows ≡ rows
  same : (f : List Value → List Value) → changed_rows id f rows ≡ rows

beyond : (id k : ℕ) (rows : List PlainRow) → StartsAboveBy id_of k rows → IsRisingBy id_of rows → id ≤ k → Beyond id rows
beyond id k [] a h le = record { low = refl; here = refl; high = refl; left = refl; same = λ f. refl }
beyond id k (r ∷ rows) a h le =
    let rest : Beyond id rows = beyond id r.id rows h.0 h.1 (omega (arith, a, le)) in
    let not_less : nat_lt r.id id ≡ false = grind (arith, a, le) in
    let other : (r.id == id) ≡ false = grind (arith, a, le) in
    let more : nat_lt id r.id ≡ true = grind (arith, a, le) in
    record {
      low = rw not_less rest.low;
      here = rw other rest.here;
      high = rw more (ap (λ xs. r ∷ xs) rest.high);
      left = rw other (ap (λ xs. r ∷ xs) rest.left);
      same = λ f. rw other (ap (λ xs. r ∷ xs) (rest.same f));
    }

same_case : (id : ℕ) (r : PlainRow) (rows : List PlainRow) (a b : Bool) → nat_lt r.id id ≡ a → (r.id == id) ≡ b → ArePlainRows (r ∷ rows)
    → spliced id (with_ids (λ i. i == id) rows) rows ≡ rows → spliced id (with_ids (λ i. i == id) (r ∷ rows)) (r ∷ rows) ≡ r ∷ rows
same_case id r rows true b less same h e =
    let other : (r.id == id) ≡ false = grind (arith, less) in
    let low : nat_lt id r.id ≡ false = grind (arith, less) in
    rw (less, other, low) (ap (λ xs. r ∷ xs) e)
same_case id r rows false true less same h e =
    let rest : Beyond id rows = beyond id r.id rows h.0 h.1 (grind (arith, same)) in
    let low : nat_lt id r.id ≡ false = grind (arith, same) in
    rw (less, same, low, rest.low, rest.here, rest.high) refl
same_case id r rows false false less same h e =
    let above : id < r.id = grind (arith, less, same) in
    let all : Beyond id (r ∷ rows) = beyond id id (r ∷ rows) above h (omega arith) in
    rw (all.low, all.here, all.high) refl

-- A record's own rows replace themselves.
pub spliced_same : (id : ℕ) (rows : List PlainRow) → ArePlainRows rows → spliced id (with_ids (λ i. i == id) rows) rows ≡ rows
spliced_same id [] h = refl
spliced_same id (r ∷ rows) h = same_case id r rows (nat_lt r.id id) (r.id == id) refl refl h (spliced_same id rows h.1)

left_case : (id : ℕ) (r : PlainRow) (rows : List PlainRow) (a b : Bool) → nat_lt r.id id ≡ a → (r.id == id) ≡ b → ArePlainRows (r ∷ rows)
    → spliced id [] rows ≡ without id rows → spliced id [] (r ∷ rows) ≡ without id (r ∷ rows)
left_case id r rows true b less same h e =
    let other : (r.id == id) ≡ false = grind (arith, less) in
    let low : nat_lt id r.id ≡ false = grind (arith, less) in
    rw (less, other, low) (ap (λ xs. r ∷ xs) e)
left_case id r rows false true less same h e =
    let rest : Beyond id rows = beyond id r.id rows h.0 h.1 (grind (arith, same)) in
    let low : nat_lt id r.id ≡ false = grind (arith, same) in
    rw (less, same, low, rest.low, rest.high) refl
left_case id r rows false false less same h e =
    let above : id < r.id = grind (arith, less, same) in
    let all : Beyond id (r ∷ rows) = beyond id id (r ∷ rows) above h (omega arith) in
    rw (all.low, all.high, all.left) refl

-- No rows replace a record's.
pub spliced_without : (id : ℕ) (rows : List PlainRow) → ArePlainRows rows → spliced id [] rows ≡ without id rows
spliced_without id [] h = refl
spliced_without id (r ∷ rows) h = left_case id r rows (nat_lt r.id id) (r.id == id) refl refl h (spliced_without id rows h.1)

abbrev pub cells : PlainRow → List Value
cells r = r.cells

abbrev renewed : (List Value → List Value) → ℕ → List PlainRow → List PlainRow
renewed f id rows = map (plain_row id) (map f (map cells rows))

changed_case : (f : List Value → List Value) (id : ℕ) (r : PlainRow) (rows : List PlainRow) (a b : Bool) → nat_lt r.id id ≡ a → (r.id == id) ≡ b → ArePlainRows (r ∷ rows)
    → spliced id (renewed f id (with_ids (λ i. i == id) rows)) rows ≡ changed_rows id f rows
    → spliced id (renewed f id (with_ids (λ i. i == id) (r ∷ rows))) (r ∷ rows) ≡ changed_rows id f (r ∷ rows)
changed_case f id r rows true b less same h e =
    let other : (r.id == id) ≡ false = grind (arith, less) in
    let low : nat_lt id r.id ≡ false = grind (arith, less) in
    rw (less, other, low) (ap (λ xs. r ∷ xs) e)
changed_case f id r rows false true less same h e =
    let rest : Beyond id rows = beyond id r.id rows h.0 h.1 (grind (arith, same)) in
    let low : nat_lt id r.id ≡ false = grind (arith, same) in
    let is : r.id ≡ id = grind (arith, same) in
    rw (less, same, low, rest.low, rest.here, rest.high) (ap (λ i. plain_row i (f r.cells) ∷ rows) (sym is))
changed_case f id r rows false false less same h e =
    let above : id < r.id = grind (arith, less, same) in
    let all : Beyond id (r ∷ rows) = beyond id id (r ∷ rows) above h (omega arith) in
    rw (all.low, all.here, all.high, all.same f) refl

-- A record's own rows, with changed cells, replace them.
pub spliced_changed : (f : List Value → List Value) (id : ℕ) (rows : List PlainRow) → ArePlainRows rows
    → spliced id (renewed f id (with_ids (λ i. i == id) rows)) rows ≡ changed_rows id f rows
spliced_changed f id [] h = refl
spliced_changed f id (r ∷ rows) h = changed_case f id r rows (nat_lt r.id id) (r.id == id) refl refl h (spliced_changed f id rows h.1)

-- If the ids of rows don't fall, and the guards of one record's rows contradict each other, the ids
-- of the rows that are shown rise.
not_same : (a b : Bool) → a ≡ true → b ≡ true → (a && b) ≡ false → ⊥
not_same true b p q r = cc
not_same false b p q r = cc

strictly : (x y : ℕ) → x ≤ y → (x ≡ y → ⊥) → x < y
strictly x y h n = grind arith

starts_if : (w : ℕ → Bool) (x y : Row) (ys : List Row) (b : Bool) → holds w y.guard ≡ b → holds w x.guard ≡ true → IsBefore id_of_row guard_of_row x (y ∷ ys)
    → StartsAboveBy id_of x.id (rows_at w ys) → StartsAboveBy id_of x.id (if b then plain_row y.id y.cells ∷ rows_at w ys else rows_at w ys)
starts_if w x y ys true e h i r = strictly x.id y.id i.0 (λ s. not_same (holds w x.guard) (holds w y.guard) h e (i.1 s w))
starts_if w x y ys false e h i r = r

starts : (w : ℕ → Bool) (x : Row) (xs : List Row) → holds w x.guard ≡ true → IsBefore id_of_row guard_of_row x xs → StartsAboveBy id_of x.id (rows_at w xs)
starts w x [] h i = tt
starts w x (y ∷ ys) h i = starts_if w x y ys (holds w y.guard) refl h i (starts w x ys h i.2)

rising_if : (w : ℕ → Bool) (x : Row) (xs : List Row) (b : Bool) → holds w x.guard ≡ b → IsBefore id_of_row guard_of_row x xs → ArePlainRows (rows_at w xs)
    → ArePlainRows (if b then plain_row x.id x.cells ∷ rows_at w xs else rows_at w xs)
rising_if w x xs true e i r = (starts w x xs e i, r)
rising_if w x xs false e i r = r

pub rising_at : (w : ℕ → Bool) (rows : List Row) → AreRising rows → ArePlainRows (rows_at w rows)
rising_at w [] t = tt
rising_at w (x ∷ xs) t = rising_if w x xs (holds w x.guard) refl t.0 (rising_at w xs t.1)

-- At most one row has an id.
few_case : (id : ℕ) (r : PlainRow) (rows : List PlainRow) (b : Bool) → (r.id == id) ≡ b → ArePlainRows (r ∷ rows) → length (with_ids (λ i. i == id) rows) ≤ 1
    → length (if b then r ∷ with_ids (λ i. i == id) rows else with_ids (λ i. i == id) rows) ≤ 1
few_case id r rows true e h few =
    let rest : Beyond id rows = beyond id r.id rows h.0 h.1 (grind (arith, e)) in
    rw rest.here (omega arith)
few_case id r rows false e h few = few

few_of : (id : ℕ) (rows : List PlainRow) → ArePlainRows rows → length (with_ids (λ i. i == id) rows) ≤ 1
few_of id [] h = omega arith
few_of id (r ∷ rows) h = few_case id r rows (r.id == id) refl h (few_of id rows h.1)

length-map : {A B : Type 0} (f : A → B) (xs : List A) → length (map f xs) ≡ length xs
length-map f [] = refl
length-map f (x ∷ xs) = ap suc (length-map f xs)

cells-named : (id : ℕ) (cs : List (List Value)) → map cells (map (plain_row id) cs) ≡ cs
cells-named id [] = refl
cells-named id (c ∷ cs) = ap (λ xs. c ∷ xs) (cells-named id cs)

-- The cells of a record's alternatives are those of its row.
pub cells_shown : (w : ℕ → Bool) (id : ℕ) (table : List Row) → cells_at w (alternatives id table) ≡ map cells (with_ids (λ i. i == id) (rows_at w table))
cells_shown w id table =
    sym (cells-named id (cells_at w (alternatives id table)))
    ∙ ap (map cells) (sym (rows_named w id (alternatives id table) (of-alternatives id table)) ∙ with_ids_at w (λ i. i == id) table)

pub few_cells : (w : ℕ → Bool) (id : ℕ) (table : List Row) → AreRising table → length (cells_at w (alternatives id table)) ≤ 1
few_cells w id table h =
    let long : length (cells_at w (alternatives id table)) ≡ length (with_ids (λ i. i == id) (rows_at w table)) =
    ap length (cells_shown w id table) ∙ length-map cells (with_ids (λ i. i == id) (rows_at w table)) in
    rw long (few_of id (rows_at w table) (rising_at w table h))

-- If each assignment shows at most one of the alternatives, their guards contradict each other.
none_if : (b : Bool) (c : List Value) (cs : List (List Value)) → length (if b then c ∷ cs else cs) ≤ 0 → length cs ≤ 0
none_if true c cs h = absurd (omega (arith, h))
none_if false c cs h = h

apart_if : (a b : Bool) (c : List Value) (cs : List (List Value)) → (a ≡ true → length (if b then c ∷ cs else cs) ≤ 0) → (a && b) ≡ false
apart_if true true c cs h =
    let few : length (c ∷ cs) ≤ 0 = h refl in
    absurd (omega (arith, few))
apart_if true false c cs h = refl
apart_if false b c cs h = refl

apart_all : (id : ℕ) (x : Row) (xs : List Row) → x.id ≡ id → AreOf id xs → ((w : ℕ → Bool) → holds w x.guard ≡ true → length (cells_at w xs) ≤ 0) → IsBefore id_of_row guard_of_row x xs
apart_all id x [] e h few = tt
apart_all id x (y ∷ ys) e h few =
    let le : x.id ≤ y.id = rw (e, h.0) (omega arith) in (
      le,
      (λ same w. apart_if (holds w x.guard) (holds w y.guard) y.cells (cells_at w ys) (few w)),
      apart_all id x ys e h.1 (λ w held. none_if (holds w y.guard) y.cells (cells_at w ys) (few w held)),
    )

others_if : (b : Bool) (c : List Value) (cs : List (List Value)) → length (if b then c ∷ cs else cs) ≤ 1 → b ≡ true → length cs ≤ 0
others_if true c cs h e = omega (arith, h)
others_if false c cs h e = cc

rest_if : (b : Bool) (c : List Value) (cs : List (List Value)) → length (if b then c ∷ cs else cs) ≤ 1 → length cs ≤ 1
rest_if true c cs h = omega (arith, h)
rest_if false c cs h = h

pub rising_of : (id : ℕ) (rows : List Row) → AreOf id rows → ((w : ℕ → Bool) → length (cells_at w rows) ≤ 1) → AreRising rows
rising_of id [] h few = tt
rising_of id (x ∷ xs) h few = (
  apart_all id x xs h.0 h.1 (λ w held. others_if (holds w x.guard) x.cells (cells_at w xs) (few w) held),
  rising_of id xs h.1 (λ w. rest_if (holds w x.guard) x.cells (cells_at w xs) (few w)),
)

pub own_all : (id : ℕ) (rows : List Row) → AreOf id rows → AllByRecursion (λ (r : Row). r.id ≡ id) rows
own_all id [] h = tt
own_all id (r ∷ rows) h = (h.0, own_all id rows h.1)

pub made_all : (m n id : ℕ) (rows : List Row) → AreOf id rows → IsMade m n id → AllByRecursion (λ (r : Row). IsMade m n r.id) rows
made_all m n id [] h made = tt
made_all m n id (r ∷ rows) h made = (subst (λ i. IsMade m n i) (sym h.0) made, made_all m n id rows h.1 made)

-- One of the tables of a sound state.
sound_table : (IsRow : ℕ → Row → Type 0) (from i : ℕ) (tables : List (List Row)) → AreTablesOf AreRising IsRow from tables
    → AreRising (rows_of tables i) × AllByRecursion (IsRow (from + i)) (rows_of tables i)
sound_table IsRow from i [] h = (tt, tt)
sound_table IsRow from zero (t ∷ ts) h =
    let here : from + 0 ≡ from = omega arith in
    (h.0, subst (λ k. AllByRecursion (IsRow k) t) (sym here) h.1)
sound_table IsRow from (suc i) (t ∷ ts) h =
    let rest = sound_table IsRow (from + 1) i ts h.2 in
    let same : from + 1 + i ≡ from + suc i = omega arith in
    (rest.0, subst (λ k. AllByRecursion (IsRow k) (rows_of ts i)) same rest.1)

table_rising : (n m : ℕ) (s : State) → IsSound (numbered_tables n s) → AreRising (rows_of s.tables m)
table_rising n m s sound = (sound_table (λ model (r : Row). IsMade model n r.id) 0 m s.tables sound.tables).0

table_made : (n m : ℕ) (s : State) → IsSound (numbered_tables n s) → AllByRecursion (λ (r : Row). IsMade m n r.id) (rows_of s.tables m)
table_made n m s sound =
    let here : 0 + m ≡ m = omega arith in
    subst (λ k. AllByRecursion (λ (r : Row). IsMade k n r.id) (rows_of s.tables m)) here (sound_table (λ model (r : Row). IsMade model n r.id) 0 m s.tables sound.tables).1

-- A sound state stays sound after a change. It is proved in jac_keep.
abbrev pub SoundLaw : Type 0
SoundLaw = (c : Change) (s : State) → IsSound s → s.number ≤ c.number → c.number ≤ 2 ^ 40 → AllStand c.number c.changed → IsSound (changed_state c s)

-- The function gives the cells of the record after a step on the rows.
abbrev pub IsStepOn : ℕ → (List PlainRow → List PlainRow) → (List (List Value) → List (List Value)) → Type 0
IsStepOn id step g = (rows : List PlainRow) → ArePlainRows rows → step rows ≡ spliced id (map (plain_row id) (g (map cells (with_ids (λ i. i == id) rows)))) rows

pub step_without : (id : ℕ) → IsStepOn id (without id) (λ cs. [])
step_without id rows h = sym (spliced_without id rows h)

pub step_changed : (id : ℕ) (f : List Value → List Value) → IsStepOn id (changed_rows id f) (map f)
step_changed id f rows h = sym (spliced_changed f id rows h)

pub step_with_row : (id : ℕ) (new : List Value) → IsStepOn id (with_row (plain_row id new)) (λ cs. new ∷ [])
step_with_row id new rows h = sym (append_assoc (with_ids (λ i. nat_lt i id) rows) (plain_row id new ∷ []) (with_ids (λ i. nat_lt id i) rows))

shown_case : (id m : ℕ) (tables : PlainTables) (table : List PlainRow) (step : List PlainRow → List PlainRow) (g : List (List Value) → List (List Value)) (new : List (List Value)) (b : Bool)
    → rows_of tables m ≡ table → ArePlainRows table → IsStepOn id step g
    → new ≡ (if b then g (map cells (with_ids (λ i. i == id) table)) else map cells (with_ids (λ i. i == id) table))
    → map (plain_row id) (map cells (with_ids (λ i. i == id) table)) ≡ with_ids (λ i. i == id) table
    → slice_set tables m (spliced id (map (plain_row id) new) table) ≡ (if b then slice_set tables m (step (rows_of tables m)) else tables)
shown_case id m tables table step g new true e h is n own = rw (n, e) (ap (slice_set tables m) (sym (is table h)))
shown_case id m tables table step g new false e h is n own =
    rw (n, own, spliced_same id table h) (ap (slice_set tables m) (sym e) ∙ set_same m tables)

own_rows : (w : ℕ → Bool) (id : ℕ) (table : List Row) → map (plain_row id) (map cells (with_ids (λ i. i == id) (rows_at w table))) ≡ with_ids (λ i. i == id) (rows_at w table)
own_rows w id table =
    ap (map (plain_row id)) (sym (cells_shown w id table))
    ∙ sym (rows_named w id (alternatives id table) (of-alternatives id table))
    ∙ with_ids_at w (λ i. i == id) table

few_then : (b : Bool) (old : List (List Value)) (g : List (List Value) → List (List Value)) → length old ≤ 1 → ((cs : List (List Value)) → length cs ≤ 1 → length (g cs) ≤ 1)
    → length (if b then g old else old) ≤ 1
few_then true old g h few = few old h
few_then false old g h few = h

-- The alternatives show the same cells, if at most one is shown.
abbrev pub ShowCells : List Row → List Row → Type 0
ShowCells rows put = (w : ℕ → Bool) → length (cells_at w rows) ≤ 1 → cells_at w put ≡ cells_at w rows

-- The new alternatives show at most one, so that alternatives which show the same may replace them.
pub shows_put : (n id m : ℕ) (s : State) (guard : List (ℕ × Bool)) (new put : List Row) (g : (ℕ → Bool) → List (List Value) → List (List Value))
    → IsSound (numbered_tables n s)
    → ((w : ℕ → Bool) → cells_at w new ≡ (if holds w guard then g w (cells_at w (alternatives id (rows_of s.tables m))) else cells_at w (alternatives id (rows_of s.tables m))))
    → ((w : ℕ → Bool) (cs : List (List Value)) → length cs ≤ 1 → length (g w cs) ≤ 1)
    → ShowCells new put
    → (w : ℕ → Bool) → cells_at w put ≡ (if holds w guard then g w (cells_at w (alternatives id (rows_of s.tables m))) else cells_at w (alternatives id (rows_of s.tables m)))
shows_put n id m s guard new put g sound shows few same w =
    let old = cells_at w (alternatives id (rows_of s.tables m)) in
    let one : length (cells_at w new) ≤ 1 = rw (shows w) (few_then (holds w guard) old (g w) (few_cells w id (rows_of s.tables m) (table_rising n m s sound)) (few w)) in
    same w one ∙ shows w

-- The new alternatives of a record: where the guard holds, those after the step, and elsewhere the
-- old ones.
pub written : SoundLaw → (n id m : ℕ) (s : State) (guard : List (ℕ × Bool)) (new : List Row)
    (g : (ℕ → Bool) → List (List Value) → List (List Value)) (step : (ℕ → Bool) → List PlainRow → List PlainRow)
    → IsSound (numbered_tables n s) → model_of_id id ≡ m → IsMade m n id → AreOf id new
    → ((w : ℕ → Bool) → cells_at w new ≡ (if holds w guard then g w (cells_at w (alternatives id (rows_of s.tables m))) else cells_at w (alternatives id (rows_of s.tables m))))
    → ((w : ℕ → Bool) (cs : List (List Value)) → length cs ≤ 1 → length (g w cs) ≤ 1)
    → ((w : ℕ → Bool) → IsStepOn id (step w) (g w))
    → Written n (λ w ts. slice_set ts m (step w (rows_of ts m))) guard s (state_with id new s)
written law n id m s guard new g step sound model made own shows few is =
    let table = rows_of s.tables m in
    let rising : AreRising table = table_rising n m s sound in
    let apart : AreRising new =
    rising_of id new own (λ w. rw (shows w) (few_then (holds w guard) (cells_at w (alternatives id table)) (g w) (few_cells w id table rising) (few w))) in
    let stand : MayStand n id new = record {
      own = own_all id new own;
      rising = apart;
      made = made_all (model_of_id id) n id new own (subst (λ k. IsMade k n id) (sym model) made);
    } in
    record {
      left = λ w.
          tables_with w id m new s model
          ∙ ap (λ rows. slice_set (project_at w s).tables m (spliced id (rows_at w new) rows)) (shown_rows w m s.tables)
          ∙ ap (λ rows. slice_set (project_at w s).tables m (spliced id rows (rows_at w table))) (rows_named w id new own)
          ∙ shown_case id m (project_at w s).tables (rows_at w table) (step w) (g w) (cells_at w new) (holds w guard)
          (shown_rows w m s.tables) (rising_at w table rising) (is w) (shows w ∙ rw (cells_shown w id table) refl) (own_rows w id table);
      sound = law (record { changed = one id new; number = n }) (numbered_tables n s) sound (omega arith) sound.next.1 (stand, tt);
    }

untouched_case : (m : ℕ) (tables : PlainTables) (rows : List PlainRow) (b : Bool) → rows ≡ rows_of tables m → tables ≡ (if b then slice_set tables m rows else tables)
untouched_case m tables rows true e = sym (ap (slice_set tables m) e ∙ set_same m tables)
untouched_case m tables rows false e = refl

-- A record that doesn't exist.
pub absent : (n id m : ℕ) (s : State) (guard : List (ℕ × Bool)) (g : (ℕ → Bool) → List (List Value) → List (List Value)) (step : (ℕ → Bool) → List PlainRow → List PlainRow)
    → IsSound (numbered_tables n s) → alternatives id (rows_of s.tables m) ≡ [] → ((w : ℕ → Bool) → g w [] ≡ []) → ((w : ℕ → Bool) → IsStepOn id (step w) (g w))
    → Written n (λ w ts. slice_set ts m (step w (rows_of ts m))) guard s s
absent n id m s guard g step sound none left is =
    let table = rows_of s.tables m in
    record {
      left = λ w.
          let rising : ArePlainRows (rows_at w table) = rising_at w table (table_rising n m s sound) in
          let gone : with_ids (λ i. i == id) (rows_at w table) ≡ [] = sym (with_ids_at w (λ i. i == id) table) ∙ ap (rows_at w) none in
          let same : step w (rows_at w table) ≡ rows_at w table =
          is w (rows_at w table) rising
          ∙ ap (λ cs. spliced id (map (plain_row id) cs) (rows_at w table)) (ap (λ rows. g w (map cells rows)) gone ∙ left w)
          ∙ ap (λ rows. spliced id rows (rows_at w table)) (sym gone)
          ∙ spliced_same id (rows_at w table) rising in
          untouched_case m (project_at w s).tables (step w (rows_of (project_at w s).tables m)) (holds w guard)
          (ap (step w) (shown_rows w m s.tables) ∙ same ∙ sym (shown_rows w m s.tables));
      sound = sound;
    }

differs : (b : Bool) → (b ≡ true → ⊥) → b ≡ false
differs true h = absurd (h refl)
differs false h = refl

none_if_other : (m n id : ℕ) (table : List Row) → (m ≡ model_of_id id → ⊥) → AllByRecursion (λ (r : Row). IsMade m n r.id) table → alternatives id table ≡ []
none_if_other m n id [] h made = refl
none_if_other m n id (r ∷ rows) h made =
    let is : model_of_id r.id ≡ m = made.0.of_model in
    let other : (r.id == id) ≡ false = differs (r.id == id) (λ same. h (sym is ∙ ap model_of_id (eqb-true r.id id same))) in
    rw other (none_if_other m n id rows h made.1)

made_case : (m n id : ℕ) (r : Row) (others rows : List Row) (b : Bool) → (r.id == id) ≡ b → (if b then r ∷ others else others) ≡ rows → IsMade m n r.id
    → (others ≡ rows → IsMade m n id) → IsMade m n id
made_case m n id r others rows true same e made rest = subst (λ i. IsMade m n i) (eqb-true r.id id same) made
made_case m n id r others rows false same e made rest = rest e

-- If a record exists, a request made it.
made_of : (m n id : ℕ) (table : List Row) (first : Row) (rest : List Row) → alternatives id table ≡ first ∷ rest → AllByRecursion (λ (r : Row). IsMade m n r.id) table → IsMade m n id
made_of m n id [] first rest e made = cc
made_of m n id (r ∷ rows) first rest e made =
    made_case m n id r (alternatives id rows) (first ∷ rest) (r.id == id) refl e made.0 (λ more. made_of m n id rows first rest more made.1)

pub record_made : (n m id : ℕ) (s : State) (first : Row) (rest : List Row) → IsSound (numbered_tables n s) → alternatives id (rows_of s.tables m) ≡ first ∷ rest → IsMade m n id
record_made n m id s first rest sound e = made_of m n id (rows_of s.tables m) first rest e (table_made n m s sound)

pub no_other : (n m id : ℕ) (s : State) → IsSound (numbered_tables n s) → (m ≡ model_of_id id → ⊥) → alternatives id (rows_of s.tables m) ≡ []
no_other n m id s sound h = none_if_other m n id (rows_of s.tables m) h (table_made n m s sound)

left_case_of : (b : Bool) (t : PlainTables) → t ≡ (if b then t else t)
left_case_of true t = refl
left_case_of false t = refl

-- A step that doesn't change the tables.
pub idle : (n : ℕ) (s : State) (guard : List (ℕ × Bool)) (step : (ℕ → Bool) → PlainTables → PlainTables) → ((w : ℕ → Bool) (ts : PlainTables) → step w ts ≡ ts) → IsSound (numbered_tables n s)
    → Written n step guard s s
idle n s guard step same sound = record {
  left = λ w.
      left_case_of (holds w guard) (project_at w s).tables
      ∙ ap (λ ts. if holds w guard then ts else (project_at w s).tables) (sym (same w (project_at w s).tables));
  sound = sound;
}

empty_of : (rows : List Row) → true ≡ (length rows == 0) → rows ≡ []
empty_of [] h = refl
empty_of (r ∷ rows) h = absurd (grind (arith, h))

record First (rows : List Row) : Type 0 where
  first : Row
  rest : List Row
  is : rows ≡ first ∷ rest

first_of : (rows : List Row) → false ≡ (length rows == 0) → First rows
first_of [] h = cc
first_of (r ∷ rows) h = record { first = r; rest = rows; is = refl }

-- If the record doesn't exist, nothing was written.
pub absent_by : (n id m : ℕ) (old new : State) (guard : List (ℕ × Bool)) (rows : List Row)
    (g : (ℕ → Bool) → List (List Value) → List (List Value)) (step : (ℕ → Bool) → List PlainRow → List PlainRow)
    → ((w : ℕ → Bool) → g w [] ≡ []) → ((w : ℕ → Bool) → IsStepOn id (step w) (g w))
    → IsSound (numbered_tables n old) → rows ≡ alternatives id (rows_of old.tables m) → true ≡ (length rows == 0) → new ≡ old
    → Written n (λ w ts. slice_set ts m (step w (rows_of ts m))) guard old new
absent_by n id m old new guard rows g step left is sound exact none same =
    subst (λ s. Written n (λ w ts. slice_set ts m (step w (rows_of ts m))) guard old s) (sym same)
    (absent n id m old guard g step sound (sym exact ∙ empty_of rows none) left is)

-- If the record exists, its alternatives were replaced.
pub replaced_by : SoundLaw → (n id m : ℕ) (old mid new : State) (guard : List (ℕ × Bool)) (rows given kept put : List Row)
    (g : (ℕ → Bool) → List (List Value) → List (List Value)) (step : (ℕ → Bool) → List PlainRow → List PlainRow)
    → ((w : ℕ → Bool) (cs : List (List Value)) → length cs ≤ 1 → length (g w cs) ≤ 1) → ((w : ℕ → Bool) → IsStepOn id (step w) (g w))
    → IsSound (numbered_tables n old) → model_of_id id ≡ m → rows ≡ alternatives id (rows_of old.tables m) → false ≡ (length given == 0) → given ≡ rows
    → All (λ (r : Row). r.id ≡ id) put
    → ((w : ℕ → Bool) → cells_at w kept ≡ (if holds w guard then g w (cells_at w given) else cells_at w given))
    → ShowCells kept put → mid ≡ old → new ≡ state_with id put mid
    → Written n (λ w ts. slice_set ts m (step w (rows_of ts m))) guard old new
replaced_by law n id m old mid new guard rows given kept put g step few is sound model exact some read own shows put_shows same done =
    let there : First given = first_of given some in
    let from : given ≡ alternatives id (rows_of old.tables m) = read ∙ exact in
    let state : new ≡ state_with id put old = done ∙ ap (state_with id put) same in
    subst (λ s. Written n (λ w ts. slice_set ts m (step w (rows_of ts m))) guard old s) (sym state)
    (written law n id m old guard put g step sound model (record_made n m id old there.first there.rest sound (sym from ∙ there.is)) (are_of id put own)
    (shows_put n id m old guard kept put g sound
    (λ w. shows w ∙ ap (λ rows. if holds w guard then g w (cells_at w rows) else cells_at w rows) from) few put_shows)
    few is)
