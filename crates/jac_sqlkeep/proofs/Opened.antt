-- A connection that is open was open before a query.
use Rattle.std.proofs.Common.{◌≡◌, inl, inr, ℕ, false, List, Ok, Err, Result, IfOk, IfErr, IsTrue}
use Rattle.sqlite.proofs.Callers.{IsPlain}
use Rattle.sqlite.specs.Listing.{understood}
use Rattle.sqlite_value.specs.Order.{Row as Values}
use Rattle.sqlite.specs.declared.error.Error.{Error}
use Rattle.sqlite.specs.State.{State as Sql, HasCleanDisk, Shown, FailsToQuery, QueriesRow}
use Rattle.jac_sql_spec.specs.Lasting.{LeavesStoredTables}
use Rattle.jac_sql_spec.specs.Tables.{two_tables}
use Rattle.jac_sql_spec.proofs.Stays.{Stays, clean_if_open, fails_stays, same_now, shown_open, shown_same, row_open}

module _ (old new : Sql) (law : new.is_clean ≡ false → new.is_open ≡ false) where
  -- For all rows.
  pub opened_by_rows : {V : Type 0} (items : V → List Values) (sql : List ℕ) (params : Values) (r : Result V Error) → (HasCleanDisk new → IfOk r (λ v. Shown sql params old new (items v)))
      → (HasCleanDisk new → IfErr r (FailsToQuery sql params old new)) → IsTrue new.is_open → IsTrue old.is_open
  opened_by_rows items sql params (Ok v) shown fails opened = shown_open old new sql params (items v) (shown (clean_if_open new law opened))
  opened_by_rows items sql params (Err e) shown fails opened = was (fails_stays old new sql params e (fails (clean_if_open new law opened)))
    where
      was : Stays old new → IsTrue old.is_open
      was (inl same) = same.0.was_open
      was (inr undone) = undone.was_open opened

  -- and a keeper's tables are as they were
  pub left_by_rows : {V : Type 0} (items : V → List Values) (sql : List ℕ) (params : Values) → IsPlain (understood (two_tables 0 1 2) sql) → (r : Result V Error) → (HasCleanDisk new → IfOk r (λ v. Shown sql params old new (items v)))
      → (HasCleanDisk new → IfErr r (FailsToQuery sql params old new)) → LeavesStoredTables old new
  left_by_rows {V} items sql params plain r shown fails has settled =
      let was = opened_by_rows items sql params r shown fails in
      let both = λ (opened : IsTrue new.is_open). same_now old new (was opened) (settled (was opened)) opened (stays r (shown (clean_if_open new law opened)) (fails (clean_if_open new law opened)) (has (was opened))) in
      record { was_open = was; same = λ opened. (both opened).0; settled = λ opened. (both opened).1 }
    where
      stays : (r : Result V Error) → IfOk r (λ v. Shown sql params old new (items v)) → IfErr r (FailsToQuery sql params old new) → old.now.schema ≡ two_tables 0 1 2 → Stays old new
      stays (Ok v) shown fails has = inl (shown_same old new sql params (items v) (two_tables 0 1 2) has plain shown)
      stays (Err e) shown fails has = fails_stays old new sql params e fails

  -- For one row.
  pub opened_by_row : (sql : List ℕ) (params : Values) (r : Result Values Error) → (HasCleanDisk new → QueriesRow sql params old new r) → IsTrue new.is_open → IsTrue old.is_open
  opened_by_row sql params r asked opened = row_open old new sql params r (asked (clean_if_open new law opened)) opened
