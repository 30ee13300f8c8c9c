use Rattle.std.proofs.Common.{ℕ, ◌++◌}
use Rattle.std.specs.Vec.Iter.{into_iter_items}
use Rattle.jac_row_merge.specs.Merged.{Shows, AreMerged, AreOfRecord, AreInOrder}
use Rattle.jac_row_merge.proofs.merge.merge_rows.Given as goal

abbrev pub invariant-rows : goal.invariant-rows
invariant-rows l = record {
  shown : Shows l.fn.rows (l.merged.items ++ into_iter_items l.row-iterator);
  own : (id : ℕ) → AreOfRecord id l.fn.rows → AreOfRecord id (l.merged.items ++ into_iter_items l.row-iterator);
  merged : AreMerged l.merged.items;
  order : AreInOrder l.merged.items;
}
