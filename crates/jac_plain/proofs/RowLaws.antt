-- Rows of one table stay in order, and keep a property.
use Rattle.std.proofs.Common.{◌≡◌, refl, subst, arith, ap, zero, suc, ℕ, ◌+◌, ◌<◌, ◌==◌, nat_lt, Bool, true, false, if◌then◌else◌, List, [], ◌∷◌, ◌++◌}
use Rattle.std.specs.Prelude.{slice_set}
use Rattle.std.specs.List.{AllByRecursion}
use Rattle.jac_value.specs.declared.value.Value.{Value}
use Rattle.jac_world.specs.World.{StartsAboveBy}
use Rattle.jac_rows.specs.Good.{AreTablesOf, ArePlainRows}
use Rattle.jac_rows.specs.Tables.{rows_of}
use Rattle.jac_rows.specs.declared.plain.PlainRow.{PlainRow}
use Rattle.jac_plain.specs.Records.{plain_row, with_ids, with_row, changed_rows, without}

abbrev id_of : PlainRow → ℕ
id_of r = r.id

pub above_too : (j k : ℕ) (rows : List PlainRow) → j < k → StartsAboveBy id_of k rows → StartsAboveBy id_of j rows
above_too j k [] h a = tt
above_too j k (r ∷ rows) h a = omega (arith, h, a)

above_if : (k : ℕ) (b : Bool) (r : PlainRow) (rows : List PlainRow) → k < r.id → StartsAboveBy id_of k rows → StartsAboveBy id_of k (if b then r ∷ rows else rows)
above_if k true r rows h a = h
above_if k false r rows h a = a

-- Rows that are selected from a table.
above-with_ids : (k : ℕ) (test : ℕ → Bool) (rows : List PlainRow) → StartsAboveBy id_of k rows → ArePlainRows rows → StartsAboveBy id_of k (with_ids test rows)
above-with_ids k test [] a h = tt
above-with_ids k test (r ∷ rows) a h = above_if k (test r.id) r (with_ids test rows) a (above-with_ids k test rows (above_too k r.id rows a h.0) h.1)

rising_if : (b : Bool) (r : PlainRow) (rows : List PlainRow) → StartsAboveBy id_of r.id rows → ArePlainRows rows → ArePlainRows (if b then r ∷ rows else rows)
rising_if true r rows a h = (a, h)
rising_if false r rows a h = h

rising-with_ids : (test : ℕ → Bool) (rows : List PlainRow) → ArePlainRows rows → ArePlainRows (with_ids test rows)
rising-with_ids test [] h = tt
rising-with_ids test (r ∷ rows) h = rising_if (test r.id) r (with_ids test rows) (above-with_ids r.id test rows h.0 h.1) (rising-with_ids test rows h.1)

passing_above : (k : ℕ) (b : Bool) (r : PlainRow) (rows : List PlainRow) → nat_lt k r.id ≡ b → StartsAboveBy id_of k rows → StartsAboveBy id_of k (if b then r ∷ rows else rows)
passing_above k true r rows e a = grind (arith, e)
passing_above k false r rows e a = a

-- The rows with greater ids.
greater : (k : ℕ) (rows : List PlainRow) → StartsAboveBy id_of k (with_ids (λ id. nat_lt k id) rows)
greater k [] = tt
greater k (r ∷ rows) = passing_above k (nat_lt k r.id) r (with_ids (λ id. nat_lt k id) rows) refl (greater k rows)

above_before : (j k : ℕ) (b : Bool) (r : PlainRow) (rows rest : List PlainRow) → j < r.id → StartsAboveBy id_of j (rows ++ rest) → StartsAboveBy id_of j ((if b then r ∷ rows else rows) ++ rest)
above_before j k true r rows rest h a = h
above_before j k false r rows rest h a = a

above-lesser : (j k : ℕ) (rows rest : List PlainRow) → StartsAboveBy id_of j rows → ArePlainRows rows → StartsAboveBy id_of j rest
    → StartsAboveBy id_of j (with_ids (λ id. nat_lt id k) rows ++ rest)
above-lesser j k [] rest a h b = b
above-lesser j k (r ∷ rows) rest a h b =
    above_before j k (nat_lt r.id k) r (with_ids (λ id. nat_lt id k) rows) rest a (above-lesser j k rows rest (above_too j r.id rows a h.0) h.1 b)

joined_if : (k : ℕ) (b : Bool) (r row : PlainRow) (rows rest : List PlainRow) → nat_lt r.id k ≡ b → (r.id < k → StartsAboveBy id_of r.id (rows ++ rest)) → ArePlainRows (rows ++ rest)
    → ArePlainRows ((if b then r ∷ rows else rows) ++ rest)
joined_if k true r row rows rest e a h = (a (grind (arith, e)), h)
joined_if k false r row rows rest e a h = h

-- The rows with lesser ids, followed by a row.
rising-lesser : (row : PlainRow) (rows rest : List PlainRow) → ArePlainRows rows → ArePlainRows (row ∷ rest) → ArePlainRows (with_ids (λ id. nat_lt id row.id) rows ++ row ∷ rest)
rising-lesser row [] rest h g = g
rising-lesser row (r ∷ rows) rest h g =
    joined_if row.id (nat_lt r.id row.id) r row (with_ids (λ id. nat_lt id row.id) rows) (row ∷ rest) refl
    (λ less. above-lesser r.id row.id rows (row ∷ rest) h.0 h.1 less) (rising-lesser row rows rest h.1 g)

pub rising-with_row : (row : PlainRow) (rows : List PlainRow) → ArePlainRows rows → ArePlainRows (with_row row rows)
rising-with_row row rows h =
    rising-lesser row rows (with_ids (λ id. nat_lt row.id id) rows) h (greater row.id rows, rising-with_ids (λ id. nat_lt row.id id) rows h)

above_either : (k : ℕ) (b : Bool) (x y : PlainRow) (xs ys : List PlainRow) → k < x.id → k < y.id → StartsAboveBy id_of k (if b then x ∷ xs else y ∷ ys)
above_either k true x y xs ys h g = h
above_either k false x y xs ys h g = g

above-changed : (k id : ℕ) (change : List Value → List Value) (rows : List PlainRow) → StartsAboveBy id_of k rows → StartsAboveBy id_of k (changed_rows id change rows)
above-changed k id change [] a = tt
above-changed k id change (r ∷ rows) a = above_either k (r.id == id) (plain_row r.id (change r.cells)) r rows (changed_rows id change rows) a a

rising_either : (b : Bool) (x y : PlainRow) (xs ys : List PlainRow) → ArePlainRows (x ∷ xs) → ArePlainRows (y ∷ ys) → ArePlainRows (if b then x ∷ xs else y ∷ ys)
rising_either true x y xs ys h g = h
rising_either false x y xs ys h g = g

pub rising-changed : (id : ℕ) (change : List Value → List Value) (rows : List PlainRow) → ArePlainRows rows → ArePlainRows (changed_rows id change rows)
rising-changed id change [] h = tt
rising-changed id change (r ∷ rows) h =
    rising_either (r.id == id) (plain_row r.id (change r.cells)) r rows (changed_rows id change rows) h
    (above-changed r.id id change rows h.0, rising-changed id change rows h.1)

above_left : (k : ℕ) (b : Bool) (r : PlainRow) (xs ys : List PlainRow) → StartsAboveBy id_of k xs → k < r.id → StartsAboveBy id_of k (if b then xs else r ∷ ys)
above_left k true r xs ys h g = h
above_left k false r xs ys h g = g

above-without : (k id : ℕ) (rows : List PlainRow) → StartsAboveBy id_of k rows → ArePlainRows rows → StartsAboveBy id_of k (without id rows)
above-without k id [] a h = tt
above-without k id (r ∷ rows) a h = above_left k (r.id == id) r rows (without id rows) (above_too k r.id rows a h.0) a

rising_left : (b : Bool) (r : PlainRow) (xs ys : List PlainRow) → ArePlainRows xs → ArePlainRows (r ∷ ys) → ArePlainRows (if b then xs else r ∷ ys)
rising_left true r xs ys h g = h
rising_left false r xs ys h g = g

pub rising-without : (id : ℕ) (rows : List PlainRow) → ArePlainRows rows → ArePlainRows (without id rows)
rising-without id [] h = tt
rising-without id (r ∷ rows) h = rising_left (r.id == id) r rows (without id rows) h.1 (above-without r.id id rows h.0 h.1, rising-without id rows h.1)

-- A property of rows.
module _ (P : PlainRow → Type 0) where
  all_if : (b : Bool) (r : PlainRow) (rows : List PlainRow) → P r → AllByRecursion P rows → AllByRecursion P (if b then r ∷ rows else rows)
  all_if true r rows p a = (p, a)
  all_if false r rows p a = a

  all-with_ids : (test : ℕ → Bool) (rows : List PlainRow) → AllByRecursion P rows → AllByRecursion P (with_ids test rows)
  all-with_ids test [] a = tt
  all-with_ids test (r ∷ rows) a = all_if (test r.id) r (with_ids test rows) a.0 (all-with_ids test rows a.1)

  all-append : (xs ys : List PlainRow) → AllByRecursion P xs → AllByRecursion P ys → AllByRecursion P (xs ++ ys)
  all-append [] ys a b = b
  all-append (x ∷ xs) ys a b = (a.0, all-append xs ys a.1 b)

  pub all-with_row : (row : PlainRow) (rows : List PlainRow) → P row → AllByRecursion P rows → AllByRecursion P (with_row row rows)
  all-with_row row rows p a =
      all-append (with_ids (λ id. nat_lt id row.id) rows) (row ∷ with_ids (λ id. nat_lt row.id id) rows)
      (all-with_ids (λ id. nat_lt id row.id) rows a) (p, all-with_ids (λ id. nat_lt row.id id) rows a)

  all_either : (b : Bool) (x y : PlainRow) (xs ys : List PlainRow) → P x → AllByRecursion P xs → AllByRecursion P (y ∷ ys) → AllByRecursion P (if b then x ∷ xs else y ∷ ys)
  all_either true x y xs ys p a g = (p, a)
  all_either false x y xs ys p a g = g

  pub all-changed : (id : ℕ) (change : List Value → List Value) → ((r : PlainRow) → P r → P (plain_row r.id (change r.cells)))
      → (rows : List PlainRow) → AllByRecursion P rows → AllByRecursion P (changed_rows id change rows)
  all-changed id change step [] a = tt
  all-changed id change step (r ∷ rows) a =
      all_either (r.id == id) (plain_row r.id (change r.cells)) r rows (changed_rows id change rows) (step r a.0) a.1 (a.0, all-changed id change step rows a.1)

  all_left : (b : Bool) (r : PlainRow) (xs ys : List PlainRow) → AllByRecursion P xs → AllByRecursion P (r ∷ ys) → AllByRecursion P (if b then xs else r ∷ ys)
  all_left true r xs ys h g = h
  all_left false r xs ys h g = g

  pub all-without : (id : ℕ) (rows : List PlainRow) → AllByRecursion P rows → AllByRecursion P (without id rows)
  all-without id [] a = tt
  all-without id (r ∷ rows) a = all_left (r.id == id) r rows (without id rows) a.1 (a.0, all-without id rows a.1)

-- Tables after one of them is set.
module _ (IsRow : ℕ → PlainRow → Type 0) where
  abbrev pub AreRows : ℕ → List PlainRow → Type 0
  AreRows m rows = ArePlainRows rows × AllByRecursion (IsRow m) rows

  pub tables_set : (from i m : ℕ) (tables : List (List PlainRow)) (rows : List PlainRow) → m ≡ from + i → AreTablesOf ArePlainRows IsRow from tables → AreRows m rows
      → AreTablesOf ArePlainRows IsRow from (slice_set tables i rows)
  tables_set from i m [] rows e a new = a
  tables_set from zero m (t ∷ ts) rows e a new =
      let here : m ≡ from = omega (arith, e) in
      (new.0, subst (λ k. AllByRecursion (IsRow k) rows) here new.1, a.2)
  tables_set from (suc i) m (t ∷ ts) rows e a new = (a.0, a.1, tables_set (from + 1) i m ts rows (omega (arith, e)) a.2 new)

  pub table_of : (from i m : ℕ) (tables : List (List PlainRow)) → m ≡ from + i → AreTablesOf ArePlainRows IsRow from tables → AreRows m (rows_of tables i)
  table_of from i m [] e a = (tt, tt)
  table_of from zero m (t ∷ ts) e a =
      let here : from ≡ m = omega (arith, e) in
      (a.0, subst (λ k. AllByRecursion (IsRow k) t) here a.1)
  table_of from (suc i) m (t ∷ ts) e a = table_of (from + 1) i m ts (omega (arith, e)) a.2

-- The rows of a model after one table is set.
pub set_rows : (P : List PlainRow → Type 0) (tables : List (List PlainRow)) (i m : ℕ) (rows : List PlainRow) → (i ≡ m → P rows) → P (rows_of tables m) → P (rows_of (slice_set tables i rows) m)
set_rows P [] i m rows set kept = kept
set_rows P (t ∷ ts) zero zero rows set kept = set refl
set_rows P (t ∷ ts) zero (suc m) rows set kept = kept
set_rows P (t ∷ ts) (suc i) zero rows set kept = kept
set_rows P (t ∷ ts) (suc i) (suc m) rows set kept = set_rows P ts i m rows (λ e. set (ap suc e)) kept

-- Tables with a property that each of them has.
module _ (IsRow : ℕ → PlainRow → Type 0) where
  pub tables_by : (from : ℕ) (tables : List (List PlainRow)) → ((i : ℕ) → AreRows IsRow (from + i) (rows_of tables i)) → AreTablesOf ArePlainRows IsRow from tables
  tables_by from [] h = tt
  tables_by from (t ∷ ts) h =
      let first = h 0 in
      let here : from + 0 ≡ from = omega arith in (
        first.0,
        subst (λ m. AllByRecursion (IsRow m) t) here first.1,
        tables_by (from + 1) ts (λ i. let next : from + suc i ≡ from + 1 + i = omega arith in subst (λ m. AreRows IsRow m (rows_of ts i)) next (h (suc i))),
      )
