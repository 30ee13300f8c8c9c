use Rattle.std.proofs.Common.{◌≡◌, ◌+◌, length}
use Rattle.jac_row_merge.specs.Merged.{place_among}
use Rattle.jac_row_merge.proofs.merge.place_for.Given as goal

abbrev pub invariant-rows : goal.invariant-rows
invariant-rows l = record {
  place : l.place + place_among l.row l.left ≡ place_among l.row l.merged;
  long : l.place + length l.left ≡ length l.merged;
}

abbrev pub decreases-rows : goal.decreases-rows
decreases-rows l = length l.left
