-- A database that stands for a state tells it. A change leaves a database that tells the changed
-- state.
use Rattle.std.proofs.Common.{◌≡◌, refl, sym, ap, subst, ◌∙◌, ℕ, zero, suc, ◌+◌, ◌<◌, ◌^◌, ◌≤◌, ◌==◌, Bool, true, false, cond, List, [], ◌∷◌, ◌++◌, length, Some, Ok, Err, Result, IsTrue, arith}
use Rattle.std.specs.Prelude.{◌-◌, slice_index_or}
use Rattle.sqlite_value.specs.Order.{column}
use Rattle.std.specs.List.{AllByRecursion}
use Rattle.sqlite_trees.specs.declared.store.Store.{Ghosts}
use Rattle.sqlite.specs.declared.error.Error.{Error}
use Rattle.sqlite.specs.Effect.{Database}
use Rattle.sqlite.specs.Held.{Held, state}
use Rattle.sqlite.specs.State.{State as Sql, HasCleanDisk}
use Rattle.jac_value.specs.Ids.{model_of_id}
use Rattle.jac_rows.specs.Good.{ModelShape, AreSound, IsSound}
use Rattle.jac_rows.specs.declared.row.Row.{Row}
use Rattle.jac_rows.specs.declared.state.State.{State}
use Rattle.jac_row_codec.specs.Faults.{CanBeSpelled}
use Rattle.jac_keep.specs.declared.alteration.Alteration.{Alteration}
use Rattle.jac_keep.specs.declared.alteration.Change.{Change}
use Rattle.jac_keep.specs.Alterations.{AreOwn, ArePlaced, altered_rows, overlaid_from}
use Rattle.jac_keep.specs.ChangedState.{changed_state}
use Rattle.jac_keep.specs.Records.{AreOf, before, behind, placed_rows}
use Rattle.jac_keep.specs.Reshaping.{widened_state}
use Rattle.jac_keep.specs.Schema.{IsFit, empties}
use Rattle.jac_keep.proofs.SchemaLaws.{length_empties}
use Rattle.jac_keep.proofs.SoundLaws.{all-with_id, all-append, sound_if_good}
use Rattle.jac_sql_spec.specs.Facts.{Fact, none_yet, numbered_facts, facts_from}
use Rattle.jac_sql_spec.specs.Spelled.{IsSpelled}
use Rattle.jac_sql_spec.specs.Stands.{Holds, Stands, AreNarrow}
use Rattle.jac_sql_spec.specs.Statements.{sql_statements, statements_with, founding}
use Rattle.jac_sql_spec.specs.Tables.{no_tables}
use Rattle.jac_sql_spec.specs.Told.{told, tables_in, chars_in, schema_in, AreSpelled}
use Rattle.jac_sql_spec.specs.Telling.{empty_state, IsDatabaseTold, IsAllCommitted, CanAllBeSpelled, CanBeStored, AppliesTold, ReshapesTold}
use Rattle.jac_sql_spec.specs.Transaction.{Leaves, Transacts, EndsCommitted}
use Rattle.jac_sql_spec.proofs.Changed.{long_with}
use Rattle.jac_sql_spec.proofs.Exact.{change_exact}
use Rattle.jac_sql_spec.proofs.Founded.{founded, no_facts}
use Rattle.jac_sql_spec.proofs.Whole.{reshaped}
use Rattle.jac_sql_spec.proofs.Once.{stands_told}
use Rattle.jac_sql_spec.proofs.Sound.{kept_if_sound}
use Rattle.jac_sql_spec.proofs.Stays.{clean_if_open}

pub long_tables : (first n : ℕ) (all : List Fact) → length (tables_in first n all) ≡ n
long_tables first zero all = refl
long_tables first (suc n) all = ap suc (long_tables (first + 1) n all)

-- The database has the schema text of the state that it stands for.
pub schema_stands : (schema : List ℕ) (db : Database) (s : State) → Stands schema db s → schema_in db ≡ schema
schema_stands schema db s st = ap (λ rows. chars_in (column (slice_index_or rows 0 []) 3)) st.meta

-- A database that stands for a sound state tells this state, if its rows can be read back from
-- their bytes.
pub told_if_stands : (models : ℕ) (schema : List ℕ) (db : Database) (s : State) → length s.tables ≡ models → Stands schema db s → IsSound s → AreSpelled s.tables → (told models db ≡ s) × IsDatabaseTold models db
told_if_stands models schema db s long st sound spelled =
    let is : told models db ≡ s = ap (λ n. told n db) (sym long) ∙ stands_told schema db s st (kept_if_sound s sound) spelled in
    (is, record { schema = schema; stands = subst (Stands schema db) (sym is) st; sound = subst IsSound (sym is) sound; spelled = subst (λ (t : State). AreSpelled t.tables) (sym is) spelled })

-- ---- rows that can be read back because they were spelled

own_spelled : (id : ℕ) (rows : List Row) → id < 2 ^ 128 → AreOf id rows → AllByRecursion CanBeSpelled rows → AllByRecursion IsSpelled rows
own_spelled id [] room own can = tt
own_spelled id (r ∷ rs) room own can =
    (record { room = subst (λ i. i < 2 ^ 128) (sym own.0) room; guard = can.0.guard; cells = can.0.cells; narrow = can.0.narrow }, own_spelled id rs room own.1 can.1)

placed_spelled : (id : ℕ) (new rows : List Row) → AllByRecursion IsSpelled new → AllByRecursion IsSpelled rows → AllByRecursion IsSpelled (placed_rows id new rows)
placed_spelled id new rows are all =
    all-append IsSpelled (before id rows ++ new) (behind id rows) (all-append IsSpelled (before id rows) new (all-with_id IsSpelled _ rows all) are) (all-with_id IsSpelled _ rows all)

one_of : (b : Bool) (xs ys : List Row) → AllByRecursion IsSpelled xs → AllByRecursion IsSpelled ys → AllByRecursion IsSpelled (cond b xs ys)
one_of true xs ys one two = one
one_of false xs ys one two = two

altered_spelled : (model : ℕ) (xs : List Alteration) (rows : List Row) → AreNarrow xs → AreOwn xs → CanAllBeSpelled xs → AllByRecursion IsSpelled rows → AllByRecursion IsSpelled (altered_rows model xs rows)
altered_spelled model [] rows narrow own can all = all
altered_spelled model (x ∷ xs) rows narrow own can all =
    altered_spelled model xs (cond (model_of_id x.id == model) (placed_rows x.id x.rows rows) rows) narrow.1 own.1 can.1
    (one_of (model_of_id x.id == model) (placed_rows x.id x.rows rows) rows (placed_spelled x.id x.rows rows (own_spelled x.id x.rows narrow.0 own.0 can.0) all) all)

overlaid_spelled : (first : ℕ) (xs : List Alteration) (tables : List (List Row)) → AreNarrow xs → AreOwn xs → CanAllBeSpelled xs → AreSpelled tables → AreSpelled (overlaid_from first xs tables)
overlaid_spelled first xs [] narrow own can are = tt
overlaid_spelled first xs (t ∷ ts) narrow own can are = (altered_spelled first xs t narrow own can are.0, overlaid_spelled (first + 1) xs ts narrow own can are.1)

-- ---- a change

module _ {S : Type 0} (g : Ghosts S) (models : ℕ) (old new : Held S) (c : Change) (law : (state g new).is_clean ≡ false → (state g new).is_open ≡ false)
    (ends : HasCleanDisk (state g new) → EndsCommitted (state g old) (state g new)) (was : IsAllCommitted models (state g old)) where
  done : (db : Database) → IsTrue (state g old).is_open → IsSound (changed_state c (told models (state g old).now)) → CanBeStored models c.changed → Leaves g (sql_statements c) old db
      → (told models db ≡ changed_state c (told models (state g old).now)) × IsDatabaseTold models db
  done db opened sound may left =
      let it = was.told_by opened in
      let s = told models (state g old).now in
      let long : length s.tables ≡ models = long_tables 0 models _ in
      let st = change_exact g it.schema old old s it.stands (kept_if_sound s it.sound) c db may.narrow may.own (subst (ArePlaced c.changed) (sym long) may.placed) left in
      told_if_stands models it.schema db (changed_state c s) (long_with 0 c.changed s.tables ∙ long) st sound (overlaid_spelled 0 c.changed s.tables may.narrow may.own may.spelled it.spelled)

  at_end : IsTrue (state g new).is_open → EndsCommitted (state g old) (state g new)
  at_end opened = ends (clean_if_open (state g new) law opened)

  -- One transaction of a change, if the database tells a state.
  pub change_told : (r : Result (Unit {0}) Error) → (IsTrue (state g old).is_open → IsSound (changed_state c (told models (state g old).now))) → Rattle.std.specs.Prelude.OnOk r (CanBeStored models c.changed)
      → Transacts g (sql_statements c) old new r → AppliesTold g models c old new r
  change_told (Ok u) sound may t =
      let whole = λ (opened : IsTrue (state g new).is_open).
      let early = (at_end opened).was_open opened in
      done (state g new).committed early (sound early) may (t.all (clean_if_open (state g new) law opened)) in
      record {
        kept = record { settled = λ opened. (at_end opened).settled opened; told_by = λ opened. subst (IsDatabaseTold models) (sym ((at_end opened).settled opened)) (whole opened).1 };
        told_before = λ opened. (at_end opened).was_open opened;
        exact = λ opened. ap (told models) ((at_end opened).settled opened) ∙ (whole opened).0;
        refused = λ opened. tt;
      }
  change_told (Err e) sound may t =
      let same = λ (opened : IsTrue (state g new).is_open). (t.none (clean_if_open (state g new) law opened) opened).0 in
      record {
        kept = record { settled = λ opened. (at_end opened).settled opened; told_by = λ opened. subst (IsDatabaseTold models) (sym (same opened)) (was.told_by ((at_end opened).was_open opened)) };
        told_before = λ opened. (at_end opened).was_open opened;
        exact = λ opened. tt;
        refused = λ opened. ap (told models) (same opened);
      }

-- ---- tables without rows

pub empty_spelled : (n : ℕ) → AreSpelled (empties n)
empty_spelled zero = tt
empty_spelled (suc n) = (tt, empty_spelled n)

-- ---- a change that brings another schema

same_facts : (first n : ℕ) (ts : List (List Row)) → facts_from first (ts ++ empties n) ≡ facts_from first ts
same_facts first n [] = no_facts first n
same_facts first n (t ∷ ts) = ap (λ fs. numbered_facts first none_yet t ++ fs) (same_facts (first + 1) n ts)

spelled_more : (n : ℕ) (ts : List (List Row)) → AreSpelled ts → AreSpelled (ts ++ empties n)
spelled_more n [] are = empty_spelled n
spelled_more n (t ∷ ts) are = (are.0, spelled_more n ts are.1)

-- Empty tables have no facts.
stands_widened : (schema : List ℕ) (db : Database) (models : ℕ) (s : State) → Stands schema db s → Stands schema db (widened_state models s)
stands_widened schema db models s st = record {
  schema_is = st.schema_is;
  meta = st.meta;
  rec = subst (Holds (db.trees 1)) (sym (same_facts 0 (models - length s.tables) s.tables)) st.rec;
}

module _ {S : Type 0} (g : Ghosts S) (shapes : List ModelShape) (models : ℕ) (old new : Held S) (c : Change) (schema : List ℕ) (law : (state g new).is_clean ≡ false → (state g new).is_open ≡ false)
    (ends : HasCleanDisk (state g new) → EndsCommitted (state g old) (state g new)) (was : IsAllCommitted models (state g old))
    (fits : IsTrue (state g old).is_open → IsFit shapes (widened_state (length shapes) (changed_state c (told models (state g old).now)))) where
  reshape_done : (db : Database) → IsTrue (state g old).is_open → CanBeStored models c.changed → Leaves g (statements_with c (Some schema)) old db
      → (told (length shapes) db ≡ widened_state (length shapes) (changed_state c (told models (state g old).now))) × IsDatabaseTold (length shapes) db × (schema_in db ≡ schema)
  reshape_done db opened may left =
      let it = was.told_by opened in
      let s = told models (state g old).now in
      let long : length s.tables ≡ models = long_tables 0 models _ in
      let ran = reshaped g it.schema c schema (record old { in_transaction = true }) left.last s may.narrow may.own (subst (ArePlaced c.changed) (sym long) may.placed) (kept_if_sound s it.sound) left.ran it.stands in
      let st : Stands schema db (changed_state c s) = subst (λ d. Stands schema d (changed_state c s)) (sym left.left) ran in
      let fit = fits opened in
      let pair = told_if_stands (length shapes) schema db (widened_state (length shapes) (changed_state c s)) fit.tables (stands_widened schema db (length shapes) (changed_state c s) st)
      (sound_if_good shapes (widened_state (length shapes) (changed_state c s)) fit.good) (spelled_more _ (changed_state c s).tables (overlaid_spelled 0 c.changed s.tables may.narrow may.own may.spelled it.spelled)) in
      (pair.0, pair.1, schema_stands schema db (changed_state c s) st)

  reshape_end : IsTrue (state g new).is_open → EndsCommitted (state g old) (state g new)
  reshape_end opened = ends (clean_if_open (state g new) law opened)

  -- One transaction of a change that brings another schema, if the database tells a state.
  pub reshape_told : (r : Result (Unit {0}) Error) → Rattle.std.specs.Prelude.OnOk r (CanBeStored models c.changed) → Transacts g (statements_with c (Some schema)) old new r → ReshapesTold g models (length shapes) c schema old new r
  reshape_told (Ok u) may t =
      let whole = λ (opened : IsTrue (state g new).is_open). reshape_done (state g new).committed ((reshape_end opened).was_open opened) may (t.all (clean_if_open (state g new) law opened)) in
      record {
        told_before = λ opened. (reshape_end opened).was_open opened;
        kept = record { settled = λ opened. (reshape_end opened).settled opened; told_by = λ opened. subst (IsDatabaseTold (length shapes)) (sym ((reshape_end opened).settled opened)) (whole opened).1 };
        same = tt;
        exact = λ opened. ap (told (length shapes)) ((reshape_end opened).settled opened) ∙ (whole opened).0;
        refused = λ opened. tt;
        stored = λ opened. ap schema_in ((reshape_end opened).settled opened) ∙ (whole opened).2;
      }
  reshape_told (Err e) may t =
      let same = λ (opened : IsTrue (state g new).is_open). (t.none (clean_if_open (state g new) law opened) opened).0 in
      record {
        told_before = λ opened. (reshape_end opened).was_open opened;
        kept = tt;
        same = record { settled = λ opened. (reshape_end opened).settled opened; told_by = λ opened. subst (IsDatabaseTold models) (sym (same opened)) (was.told_by ((reshape_end opened).was_open opened)) };
        exact = λ opened. tt;
        refused = λ opened. ap (told models) (same opened);
        stored = λ opened. tt;
      }

-- ---- a store that was founded

empty_sound : (first n next : ℕ) → AreSound next first (empties n)
empty_sound first zero next = tt
empty_sound first (suc n) next = (tt, tt, empty_sound (first + 1) n next)

-- One transaction that founds a store leaves a database that tells the empty state.
pub founded_told : {S T : Type 0} (g : Ghosts S) (schema : List ℕ) (models : ℕ) (old new : Held S) (t : T) → (state g old).now.schema ≡ no_tables → ((state g new).is_clean ≡ false → (state g new).is_open ≡ false)
    → (HasCleanDisk (state g new) → EndsCommitted (state g old) (state g new)) → Transacts g (founding schema) old new (Ok t)
    → IsAllCommitted models (state g new) × (IsTrue (state g new).is_open → told models (state g new).now ≡ empty_state models) × (IsTrue (state g new).is_open → schema_in (state g new).now ≡ schema)
founded_told g schema models old new t none law ends transacts =
    let both : IsTrue (state g new).is_open → ((state g new).now ≡ (state g new).committed) × (told models (state g new).now ≡ empty_state models) × IsDatabaseTold models (state g new).now × (schema_in (state g new).now ≡ schema) = λ opened.
    let clean = clean_if_open (state g new) law opened in
    let left = transacts.all clean in
    let settled = (ends clean).settled opened in
    let st = founded g schema models (record old { in_transaction = true }) left.last none left.ran in
    let here : Stands schema (state g new).now (empty_state models) = subst (λ d. Stands schema d (empty_state models)) (sym (settled ∙ left.left)) st in
    let sound : IsSound (empty_state models) = record { next = (omega arith, omega arith); tables = empty_sound 0 models 1 } in
    let pair = told_if_stands models schema (state g new).now (empty_state models) (length_empties models) here sound (empty_spelled models) in
    (settled, pair.0, pair.1, schema_stands schema (state g new).now (empty_state models) here) in
    (record { settled = λ opened. (both opened).0; told_by = λ opened. (both opened).2 }, (λ opened. (both opened).1), (λ opened. (both opened).3))
