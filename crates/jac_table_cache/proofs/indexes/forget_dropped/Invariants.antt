use Rattle.std.proofs.Common.{◌≡◌, ℕ, List, None, Some, drop}
use Rattle.jac_rows.specs.declared.row.Row.{Row}
use Rattle.jac_keep.specs.Indexed.{index_at}
use Rattle.jac_keep.proofs.Forgotten.{forgotten}
use Rattle.jac_table_cache.specs.Held.{held}
use Rattle.jac_table_cache.proofs.indexes.forget_dropped.Given as goal

abbrev pub invariant-changed : goal.invariant-changed
invariant-changed l =
    record {
      gone : (m : ℕ) → held m l.tables ≡ None → forgotten m (drop l.alteration-index l.changed) (index_at m l.indexes) ≡ forgotten m l.changed (index_at m l.initial.indexes);
      same : (m : ℕ) (rows : List Row) → held m l.tables ≡ Some rows → index_at m l.indexes ≡ index_at m l.initial.indexes;
    }
