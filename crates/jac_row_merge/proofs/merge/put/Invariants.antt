use Rattle.std.proofs.Common.{ℕ, [], ◌∷◌, ◌++◌, length}
use Rattle.jac_row_merge.specs.Merged.{Shows, AreMerged, AreOfRecord, AreInOrder}
use Rattle.jac_row_merge.proofs.merge.put.Given as goal

abbrev pub invariant-joining : goal.invariant-joining
invariant-joining l = record {
  shown : Shows (l.fn.merged.items ++ l.fn.row ∷ []) (l.merged.items ++ l.row ∷ []);
  own : (id : ℕ) → AreOfRecord id (l.fn.merged.items ++ l.fn.row ∷ []) → AreOfRecord id (l.merged.items ++ l.row ∷ []);
  merged : AreMerged l.merged.items;
  order : AreInOrder l.merged.items;
}

abbrev pub decreases-joining : goal.decreases-joining
decreases-joining l = length l.merged.items
