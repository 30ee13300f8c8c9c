-- A query leaves the database as it was, even if it fails. If the connection is open, the disk is
-- clean.
use Rattle.std.proofs.Common.{◌≡◌, ◌⊎◌, inl, inr, refl, sym, ap, subst, ◌∙◌, ℕ, pos, Bool, true, false, true≢false, List, [], ◌∷◌, None, Some, Option, Ok, Err, Result, IfOk, IsTrue}
use Rattle.sqlite_trees.proofs.Doubt.{no_doubt}
use Rattle.sqlite_schema.specs.declared.command.Returning.{Returning}
use Rattle.sqlite_resolve.specs.declared.compiled.Compiled.{Compiled}
use Rattle.sqlite_value.specs.Order.{Row, column}
use Rattle.sqlite.specs.declared.error.Error.{Error}
use Rattle.sqlite.specs.Effect.{Database}
use Rattle.sqlite.specs.Schema.{Schema}
use Rattle.sqlite.specs.State.{State as Sql, HasCleanDisk, IsUnchanged, IsRolledBack, IsNotRun, FailsToShow, FailsToQuery, Shown, ShowsRows, QueriesRow}
use Rattle.sqlite.specs.Listing.{understood}
use Rattle.sqlite.proofs.Callers.{IsPlain}
use Rattle.jac_sql_spec.specs.Told.{told}
use Rattle.jac_sql_spec.specs.Telling.{IsDatabaseTold, IsAllCommitted, StaysCommitted}

-- If the connection is open, the disk is clean.
pub clean_if_open : (s : Sql) → (s.is_clean ≡ false → s.is_open ≡ false) → IsTrue s.is_open → HasCleanDisk s
clean_if_open s law opened = go s.is_clean refl
  where
    go : (b : Bool) → s.is_clean ≡ b → HasCleanDisk s
    go true e = no_doubt s.is_clean e
    go false e = absurd (true≢false (sym opened ∙ law e))

abbrev pub Stays : Sql → Sql → Type 0
Stays old new = IsUnchanged old new ⊎ IsRolledBack old new

module _ (old new : Sql) where
  show_fails : (sql : List ℕ) (params : Row) (e : Error) (c : Compiled) (what : Option Returning) → FailsToShow old new sql c params e what → Stays old new
  show_fails sql params e c None h = inl h.3
  show_fails sql params e c (Some what) (inl h) = inl h.1
  show_fails sql params e c (Some what) (inr h) = inr h.3

  not_run : (sql : List ℕ) (params : Row) (e : Error) → IsNotRun old new sql params e → Stays old new
  unfolding IsNotRun
  not_run sql params e (inl h) = inl h.1
  not_run sql params e (inr h) = inr h.3

  pub fails_stays : (sql : List ℕ) (params : Row) (e : Error) → FailsToQuery sql params old new e → Stays old new
  unfolding FailsToQuery
  fails_stays sql params e (inl h) = not_run sql params e h
  fails_stays sql params e (inr h) = show_fails sql _ e h.0 h.0.returning h.2

  shows_open : (sql : List ℕ) (params : Row) (rows : List Row) (c : Compiled) (what : Option Returning) → ShowsRows old new sql c params rows what → IsTrue old.is_open
  shows_open sql params rows c None h = h.3.0.was_open
  shows_open sql params rows c (Some what) h = h.1.shown.was_open

  pub shown_open : (sql : List ℕ) (params : Row) (rows : List Row) → Shown sql params old new rows → IsTrue old.is_open
  unfolding Shown
  shown_open sql params rows h = shows_open sql _ rows h.0 h.0.returning h.2

  shows_same : (sql : List ℕ) (params : Row) (rows : List Row) (c : Compiled) (what : Option Returning) → what ≡ None → ShowsRows old new sql c params rows what → IsUnchanged old new
  shows_same sql params rows c None none h = h.3
  shows_same sql params rows c (Some what) none h = absurd (let e = none in cc)

  pub shown_same : (sql : List ℕ) (params : Row) (rows : List Row) (schema : Schema) → old.now.schema ≡ schema → IsPlain (understood schema sql) → Shown sql params old new rows → IsUnchanged old new
  unfolding Shown
  shown_same sql params rows schema has plain h =
      let known = sym h.1.is ∙ ap (λ s. understood s sql) has in
      let bare = subst IsPlain (sym known) plain in
      shows_same sql _ rows h.0 h.0.returning bare.0 h.2

  pub row_open : (sql : List ℕ) (params : Row) (r : Result Row Error) → QueriesRow sql params old new r → IsTrue new.is_open → IsTrue old.is_open
  unfolding QueriesRow
  row_open sql params (Ok row) (inl h) opened = h.1.0.was_open
  row_open sql params (Ok row) (inr h) opened = shown_open sql params h.0 h.1
  row_open sql params (Err e) (inl h) opened = was (fails_stays sql params e h)
    where
      was : Stays old new → IsTrue old.is_open
      was (inl same) = same.0.was_open
      was (inr undone) = undone.was_open opened
  row_open sql params (Err e) (inr h) opened = shown_open sql params [] h.1

  pub row_stays : (sql : List ℕ) (params : Row) (schema : Schema) → old.now.schema ≡ schema → IsPlain (understood schema sql) → (r : Result Row Error) → QueriesRow sql params old new r → Stays old new
  unfolding QueriesRow
  row_stays sql params schema has plain (Ok row) (inl h) = inl h.1
  row_stays sql params schema has plain (Ok row) (inr h) = inl (shown_same sql params h.0 schema has plain h.1)
  row_stays sql params schema has plain (Err e) (inl h) = fails_stays sql params e h
  row_stays sql params schema has plain (Err e) (inr h) = inl (shown_same sql params [] schema has plain h.1)

  -- The database is the same, and all of it is committed.
  pub same_now : IsTrue old.is_open → old.now ≡ old.committed → IsTrue new.is_open → Stays old new → (new.now ≡ old.now) × (new.now ≡ new.committed)
  same_now was settled opened (inl same) = (same.0.now_is, same.0.now_is ∙ settled ∙ sym same.0.committed_is)
  same_now was settled opened (inr undone) = let back = undone.undone opened in (back.0 ∙ sym settled, back.0 ∙ sym back.1)

  module _ (models : ℕ) (was : IsAllCommitted models old) (opens : IsTrue new.is_open → IsTrue old.is_open) (stays : IsTrue new.is_open → IsTrue old.is_open → Stays old new) where
    both : (opened : IsTrue new.is_open) → (new.now ≡ old.now) × (new.now ≡ new.committed)
    both opened = same_now (opens opened) (was.settled (opens opened)) opened (stays opened (opens opened))

    pub kept_by : IsAllCommitted models new
    kept_by = record {
      settled = λ opened. (both opened).1;
      told_by = λ opened. subst (IsDatabaseTold models) (sym (both opened).0) (was.told_by (opens opened));
    }

    pub left_by : StaysCommitted models old new
    left_by = record { told_before = opens; same = λ opened. ap (told models) (both opened).0 }
