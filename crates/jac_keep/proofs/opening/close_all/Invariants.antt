use Rattle.std.proofs.Common.{◌≡◌, ◌≤◌, ◌+◌, ◌++◌, IsTrue, length, vec_len, vec_capacity}
use Rattle.std.specs.List.{AllByRecursion}
use Rattle.std.specs.Vec.Iter.{into_iter_items}
use Rattle.jac_keep.specs.Sound.{AreTables}
use Rattle.jac_keep.specs.Opened.{rows_after, CanPlace}
use Rattle.jac_keep.proofs.opening.close_all.Given as goal

abbrev pub invariant-opened : goal.invariant-opened
invariant-opened l =
    (l.tables.items ++ rows_after l.ready (into_iter_items l.one-iterator) ≡ rows_after l.ready l.fn.opened.items)
    × AreTables (rows_after l.ready (into_iter_items l.one-iterator))
    × (IsTrue l.ready → AllByRecursion CanPlace (into_iter_items l.one-iterator))
    × (vec_len l.tables + length (into_iter_items l.one-iterator) ≤ vec_capacity l.tables)
    × (vec_capacity l.tables ≡ vec_capacity l.fn.closed)
