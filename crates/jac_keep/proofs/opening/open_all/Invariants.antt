use Rattle.std.proofs.Common.{◌≡◌, ◌≤◌, ◌+◌, ◌++◌, IsTrue, length, vec_len, vec_capacity}
use Rattle.std.specs.Vec.Iter.{into_iter_items}
use Rattle.jac_keep.specs.Opened.{rows_in, AreReady}
use Rattle.jac_keep.proofs.opening.open_all.Given as goal

abbrev pub invariant-tables : goal.invariant-tables
invariant-tables l =
    (rows_in l.all.items ++ into_iter_items l.table-iterator ≡ l.fn.tables.items)
    × (IsTrue l.ready → AreReady 0 l.changed l.all.items)
    × (vec_len l.all + length (into_iter_items l.table-iterator) ≤ vec_capacity l.all)
