-- What calls that only read leave, one after another, if they succeed and if they fail.
use Rattle.std.proofs.Common.{◌≡◌, ◌⊎◌, inl, inr, refl, sym, ap, ◌∙◌, ℕ, ◌≤◌, List, [], Ok, Err, Result, IfOk, IfErr, IsTrue, arith, false}
use Rattle.sqlite_trees.specs.Tree.{Trees}
use Rattle.sqlite_value.specs.Order.{Row}
use Rattle.sqlite.specs.declared.error.Error.{Error}
use Rattle.sqlite.specs.Effect.{Database}
use Rattle.sqlite.specs.State.{State as Sql, HasCleanDisk, Survives, Shown, FailsToQuery, QueriesRow}
use Rattle.sqlite.specs.Listing.{understood}
use Rattle.sqlite.proofs.Callers.{IsPlain}
use Rattle.jac_io.specs.Faults.{Rose}
use Rattle.jac_sql_spec.specs.Lasting.{ConnectionLasts, IsSeenUnmoved, LeavesStoredTables}
use Rattle.jac_sql_spec.specs.Statements.{reading, key_reading}
use Rattle.jac_sql_spec.specs.Tables.{two_tables}
use Rattle.jac_sql_spec.proofs.RawRows.{key_plain}
use Rattle.jac_sql_spec.proofs.Stays.{Stays, clean_if_open, fails_stays, shown_open, shown_same, row_open, row_stays, same_now}
use Rattle.jac_sql_spec.proofs.Texts.{number_plain}

rose_later : (a b c : ℕ) → Rose a b → b ≤ c → Rose a c
rose_later a b c rose later = omega (arith, rose, later)

rose_before : (a b c : ℕ) → a ≤ b → Rose b c → Rose a c
rose_before a b c later rose = omega (arith, rose, later)

pub lasts_of : {P : Trees → Type 0} (old new : Sql) → Survives old new P → ConnectionLasts old new
lasts_of old new s = record { clean = s.clean; counts = s.counts; closes = s.closes }

pub lasts_same : (s : Sql) → ConnectionLasts s s
lasts_same s = record { clean = omega arith; counts = omega arith; closes = λ clean opened. inl opened }

pub lasts_then : (a b c : Sql) → ConnectionLasts a b → ConnectionLasts b c → ConnectionLasts a c
lasts_then a b c one two = record {
  clean = omega (arith, one.clean, two.clean);
  counts = omega (arith, one.counts, two.counts);
  closes = λ clean opened. next clean (one.closes (omega (arith, two.clean, clean)) opened);
}
  where
    last : IsTrue c.is_open ⊎ Rose b.faults c.faults → IsTrue c.is_open ⊎ Rose a.faults c.faults
    last (inl still) = inl still
    last (inr rose) = inr (rose_before a.faults b.faults c.faults one.counts rose)

    next : HasCleanDisk c → IsTrue b.is_open ⊎ Rose a.faults b.faults → IsTrue c.is_open ⊎ Rose a.faults c.faults
    next clean (inl still) = last (two.closes clean still)
    next clean (inr rose) = inr (rose_later a.faults b.faults c.faults rose two.counts)

-- Nothing was done.
pub unmoved_same : (s : Sql) → (IsTrue s.is_open → s.now ≡ s.committed) → IsSeenUnmoved s s
unmoved_same s settled = record { was_open = λ opened. opened; same = λ opened. refl; settled = settled }

pub unmoved_then : (a b c : Sql) → IsSeenUnmoved a b → IsSeenUnmoved b c → IsSeenUnmoved a c
unmoved_then a b c one two = record {
  was_open = λ opened. one.was_open (two.was_open opened);
  same = λ opened. two.same opened ∙ one.same (two.was_open opened);
  settled = two.settled;
}

-- Another call leaves the tables as they are.
pub unmoved_on : (a b c : Sql) → (IsTrue a.is_open → a.now.schema ≡ two_tables 0 1 2) → IsSeenUnmoved a b → LeavesStoredTables b c → IsSeenUnmoved a c
unmoved_on a b c has one two =
    unmoved_then a b c one
    (two (λ opened. ap (λ (d : Database). d.schema) (one.same opened) ∙ has (one.was_open opened)) one.settled)

pub leaves_then : (a b c : Sql) → LeavesStoredTables a b → LeavesStoredTables b c → LeavesStoredTables a c
leaves_then a b c one two has settled = unmoved_on a b c has (one has settled) two

module _ (old new : Sql) (law : new.is_clean ≡ false → new.is_open ≡ false) where
  left_by : IsTrue old.is_open → (IsTrue old.is_open → old.now ≡ old.committed) → (opened : IsTrue new.is_open) → Stays old new → (new.now ≡ old.now) × (new.now ≡ new.committed)
  left_by was settled opened stays = same_now old new was (settled was) opened stays

  was_before : IsTrue new.is_open → Stays old new → IsTrue old.is_open
  was_before opened (inl same) = same.0.was_open
  was_before opened (inr undone) = undone.was_open opened

  -- All rows that a query shows.
  pub rows_leave : {V : Type 0} (items : V → List Row) (sql : List ℕ) → IsPlain (understood (two_tables 0 1 2) sql) → (r : Result V Error)
      → (HasCleanDisk new → IfOk r (λ v. Shown sql [] old new (items v))) → (HasCleanDisk new → IfErr r (FailsToQuery sql [] old new)) → LeavesStoredTables old new
  rows_leave items sql plain (Ok v) shown fails has settled =
      let it = λ (opened : IsTrue new.is_open). shown (clean_if_open new law opened) in
      let was = λ (opened : IsTrue new.is_open). shown_open old new sql [] (items v) (it opened) in
      let both = λ (opened : IsTrue new.is_open). left_by (was opened) settled opened (inl (shown_same old new sql [] (items v) (two_tables 0 1 2) (has (was opened)) plain (it opened))) in
      record { was_open = was; same = λ opened. (both opened).0; settled = λ opened. (both opened).1 }
  rows_leave items sql plain (Err e) shown fails has settled =
      let stays = λ (opened : IsTrue new.is_open). fails_stays old new sql [] e (fails (clean_if_open new law opened)) in
      let was = λ (opened : IsTrue new.is_open). was_before opened (stays opened) in
      let both = λ (opened : IsTrue new.is_open). left_by (was opened) settled opened (stays opened) in
      record { was_open = was; same = λ opened. (both opened).0; settled = λ opened. (both opened).1 }

  pub keys_leave : {V : Type 0} (items : V → List Row) (r : Result V Error) → (HasCleanDisk new → IfOk r (λ v. Shown key_reading [] old new (items v))) → (HasCleanDisk new → IfErr r (FailsToQuery key_reading [] old new)) → LeavesStoredTables old new
  unfolding key_reading
  keys_leave items r shown fails = rows_leave items key_reading key_plain.0 r shown fails

  -- The row of the number and the schema.
  pub row_leaves : (r : Result Row Error) → (HasCleanDisk new → QueriesRow reading [] old new r) → LeavesStoredTables old new
  unfolding reading
  row_leaves r asked has settled =
      let it = λ (opened : IsTrue new.is_open). asked (clean_if_open new law opened) in
      let was = λ (opened : IsTrue new.is_open). row_open old new reading [] r (it opened) opened in
      let both = λ (opened : IsTrue new.is_open). left_by (was opened) settled opened (row_stays old new reading [] (two_tables 0 1 2) (has (was opened)) number_plain r (it opened)) in
      record { was_open = was; same = λ opened. (both opened).0; settled = λ opened. (both opened).1 }
