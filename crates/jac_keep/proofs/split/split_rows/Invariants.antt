use Rattle.std.proofs.Common.{◌≡◌, ◌++◌}
use Rattle.std.specs.Vec.Iter.{into_iter_items}
use Rattle.jac_keep.specs.Records.{before, behind}
use Rattle.jac_keep.proofs.split.split_rows.Given as goal

abbrev pub invariant-rows : goal.invariant-rows
invariant-rows l =
    (l.low.items ++ before l.id (into_iter_items l.row-iterator) ≡ before l.id l.fn.rows.items)
    × (l.high.items ++ behind l.id (into_iter_items l.row-iterator) ≡ behind l.id l.fn.rows.items)
