-- What a keeper reads is what the told state has.
use Rattle.std.proofs.Common.{◌≡◌, refl, sym, ap, subst, ◌∙◌, ℕ, pos, ◌+◌, ◌<◌, ◌^◌, false, List, [], ◌∷◌, inl, inr, Ok, Err, Result, IfOk, IfErr, IsTrue}
use Rattle.sqlite_trees.specs.declared.store.Store.{Ghosts}
use Rattle.sqlite_value.specs.declared.value.Value.TheVariants.{Int, Blob}
use Rattle.sqlite_value.specs.Order.{Row as Values}
use Rattle.sqlite.specs.declared.error.Error.{Error}
use Rattle.sqlite.specs.Listing.{understood}
use Rattle.sqlite.specs.State.{State as Sql, HasCleanDisk, Shown, QueriesRow, FailsToQuery, IsUnchanged, IsRolledBack}
use Rattle.sqlite.specs.Held.{Held, state}
use Rattle.sqlite.proofs.Callers.{IsPlain}
use Rattle.jac_value.specs.Ids.{model_of_id}
use Rattle.jac_value.specs.declared.value.Kind.{Kind}
use Rattle.jac_rows.specs.declared.row.Row.{Row}
use Rattle.jac_rows.specs.declared.state.State.{State}
use Rattle.jac_rows.specs.Tables.{rows_of}
use Rattle.jac_keep.specs.Records.{alternatives}
use Rattle.jac_sql_spec.specs.Founding.{IsNumberAsked, IsFrom, HasNumber}
use Rattle.jac_sql_spec.specs.Reading.{Each, AreShown, IsRecordRow}
use Rattle.jac_sql_spec.specs.Statements.{SqlStatement, reading, record_reading}
use Rattle.jac_sql_spec.specs.Tables.{two_tables}
use Rattle.jac_sql_spec.specs.Telling.{IsAllCommitted, StaysCommitted, ReadsTold}
use Rattle.jac_sql_spec.specs.Told.{told}
use Rattle.jac_sql_spec.proofs.Exact.{number_exact, record_exact}
use Rattle.jac_sql_spec.proofs.Sound.{kept_if_sound}
use Rattle.jac_sql_spec.proofs.Stays.{Stays, clean_if_open, fails_stays, shown_open, shown_same, row_open, row_stays, kept_by, left_by}
use Rattle.jac_sql_spec.proofs.Texts.{number_plain, record_plain}

-- The rows of a query that changes nothing.
module _ {S V : Type 0} (items : V → List Values) (g : Ghosts S) (models : ℕ) (question : SqlStatement) (Is : Values → Row → Type 0) (Exact : State → List Row → Type 0) (old new : Held S) (answer : Result V Error)
    (plain : IsPlain (understood (two_tables 0 1 2) question.text)) (law : (state g new).is_clean ≡ false → (state g new).is_open ≡ false)
    (ok : HasCleanDisk (state g new) → IfOk answer (λ v. Shown question.text question.params (state g old) (state g new) (items v)))
    (err : HasCleanDisk (state g new) → IfErr answer (FailsToQuery question.text question.params (state g old) (state g new))) (was : IsAllCommitted models (state g old)) where
  opens_by : (a : Result V Error) → IfOk a (λ v. Shown question.text question.params (state g old) (state g new) (items v)) → IfErr a (FailsToQuery question.text question.params (state g old) (state g new))
      → IsTrue (state g new).is_open → IsTrue (state g old).is_open
  opens_by (Ok v) shown none opened = shown_open (state g old) (state g new) question.text question.params (items v) shown
  opens_by (Err e) none failed opened = go (fails_stays (state g old) (state g new) question.text question.params e failed)
    where
      go : Stays (state g old) (state g new) → IsTrue (state g old).is_open
      go (inl same) = same.0.was_open
      go (inr undone) = undone.was_open opened

  opens : IsTrue (state g new).is_open → IsTrue (state g old).is_open
  opens opened = let clean = clean_if_open (state g new) law opened in opens_by answer (ok clean) (err clean) opened

  stays_by : (a : Result V Error) → IfOk a (λ v. Shown question.text question.params (state g old) (state g new) (items v)) → IfErr a (FailsToQuery question.text question.params (state g old) (state g new))
      → (state g old).now.schema ≡ two_tables 0 1 2 → Stays (state g old) (state g new)
  stays_by (Ok v) shown none has = inl (shown_same (state g old) (state g new) question.text question.params (items v) (two_tables 0 1 2) has plain shown)
  stays_by (Err e) none failed has = fails_stays (state g old) (state g new) question.text question.params e failed

  stays : IsTrue (state g new).is_open → IsTrue (state g old).is_open → Stays (state g old) (state g new)
  stays opened before = let clean = clean_if_open (state g new) law opened in stays_by answer (ok clean) (err clean) (was.told_by before).stands.schema_is

  exact_by : (a : Result V Error) (r : Result (List Row) Error) → IfOk a (λ v. Shown question.text question.params (state g old) (state g new) (items v))
      → IfOk a (λ v. IfOk r (Each Is (items v))) → IfErr a (λ e. r ≡ Err e) → ((rows : List Row) → AreShown g question Is old new rows → Exact (told models (state g old).now) rows)
      → IfOk r (Exact (told models (state g old).now))
  exact_by (Err e) r shown each none is = subst (λ (x : Result (List Row) Error). IfOk x (Exact (told models (state g old).now))) (sym none) tt
  exact_by (Ok v) (Err e) shown each none is = tt
  exact_by (Ok v) (Ok rows) shown each none is = is rows (record { found = items v; shown = shown; each = each })

  pub rows_told : (r : Result (List Row) Error) → IfOk answer (λ v. IfOk r (Each Is (items v))) → IfErr answer (λ e. r ≡ Err e)
      → (IsTrue (state g old).is_open → (rows : List Row) → AreShown g question Is old new rows → Exact (told models (state g old).now) rows) → ReadsTold g Exact models old new r
  rows_told r each none is = record {
    kept = kept_by (state g old) (state g new) models was opens stays;
    left = left_by (state g old) (state g new) models was opens stays;
    exact = λ opened. exact_by answer r (ok (clean_if_open (state g new) law opened)) each none (is (opens opened));
  }

module _ {S V : Type 0} (items : V → List Values) (g : Ghosts S) (models : ℕ) (old new : Held S) (answer : Result V Error) (law : (state g new).is_clean ≡ false → (state g new).is_open ≡ false) (kinds : List Kind) (r : Result (List Row) Error) where
  pub record_told : (id : ℕ) → id < 2 ^ 128
      → (HasCleanDisk (state g new) → IfOk answer (λ v. Shown (record_reading id).text (record_reading id).params (state g old) (state g new) (items v)))
      → (HasCleanDisk (state g new) → IfErr answer (FailsToQuery (record_reading id).text (record_reading id).params (state g old) (state g new)))
      → IfOk answer (λ v. IfOk r (Each (IsRecordRow id kinds) (items v))) → IfErr answer (λ e. r ≡ Err e) → IsAllCommitted models (state g old)
      → ReadsTold g (λ s rows. rows ≡ alternatives id (rows_of s.tables (model_of_id id))) models old new r
  unfolding record_reading
  record_told id room ok err each none was =
      rows_told items g models (record_reading id) (IsRecordRow id kinds) (λ s rows. rows ≡ alternatives id (rows_of s.tables (model_of_id id))) old new answer record_plain.0 law ok err was r each none
      (λ before rows are. let it = was.told_by before in record_exact g it.schema old new (told models (state g old).now) it.stands (kept_if_sound _ it.sound) it.spelled id kinds rows room are)

-- The number.
module _ {S : Type 0} (g : Ghosts S) (models : ℕ) (old new : Held S) (law : (state g new).is_clean ≡ false → (state g new).is_open ≡ false) (was : IsAllCommitted models (state g old)) where
  module _ (answer : Result Values Error) (asked : HasCleanDisk (state g new) → QueriesRow reading [] (state g old) (state g new) answer) where
    row_opens : IsTrue (state g new).is_open → IsTrue (state g old).is_open
    row_opens opened = row_open (state g old) (state g new) reading [] answer (asked (clean_if_open (state g new) law opened)) opened

    number_stays : IsTrue (state g new).is_open → IsTrue (state g old).is_open → Stays (state g old) (state g new)
    unfolding reading
    number_stays opened before =
        row_stays (state g old) (state g new) reading [] (two_tables 0 1 2) (was.told_by before).stands.schema_is number_plain answer (asked (clean_if_open (state g new) law opened))

    pub number_told : (r : Result ℕ Error) → IsFrom answer r → ReadsTold g (λ s n. n ≡ s.number) models old new r
    number_told r from = record {
      kept = kept_by (state g old) (state g new) models was row_opens number_stays;
      left = left_by (state g old) (state g new) models was row_opens number_stays;
      exact = λ opened. told_by answer r from (asked (clean_if_open (state g new) law opened)) (row_opens opened);
    }
      where
        told_by : (a : Result Values Error) (x : Result ℕ Error) → IsFrom a x → QueriesRow reading [] (state g old) (state g new) a → IsTrue (state g old).is_open → IfOk x (λ n. n ≡ (told models (state g old).now).number)
        told_by (Err e) x is query before = subst (λ (y : Result ℕ Error). IfOk y (λ n. n ≡ (told models (state g old).now).number)) (sym is) tt
        told_by (Ok row) (Err e) is query before = tt
        told_by (Ok row) (Ok n) is query before =
            let it = was.told_by before in
            number_exact g it.schema old new (told models (state g old).now) n it.stands (record { row = row; asked = query; has = is })
