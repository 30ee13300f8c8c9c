use Rattle.std.proofs.Common.{◌≡◌, ◌<◌, ◌≤◌, ℕ, false, length}
use Rattle.jac_keep.specs.Alterations.{alters}
use Rattle.jac_keep.specs.Records.{AreOrdered}
use Rattle.jac_table_cache.specs.Held.{held, rows_held, IsLater}
use Rattle.jac_table_cache.proofs.held.alter_each.Given as goal

-- The tables before this place are altered, and the others are unchanged.
abbrev pub invariant-tables : goal.invariant-tables
invariant-tables l =
    record {
      done : (m : ℕ) → m < l.at → IsLater m l.changed (held m l.fn.tables.items) (held m l.tables.items);
      left : (m : ℕ) → l.at ≤ m → held m l.tables.items ≡ held m l.fn.tables.items;
      ordered : (m : ℕ) → AreOrdered (rows_held m l.tables.items);
      same : (m : ℕ) → alters m l.changed ≡ false → held m l.tables.items ≡ held m l.fn.tables.items;
      count : length l.tables.items ≡ length l.fn.tables.items;
    }
