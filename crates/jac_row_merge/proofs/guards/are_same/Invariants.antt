use Rattle.std.proofs.Common.{◌≡◌, length}
use Rattle.jac_row_merge.specs.Merged.{same_pairs}
use Rattle.jac_row_merge.proofs.guards.are_same.Given as goal

abbrev pub invariant-pairs : goal.invariant-pairs
invariant-pairs l = same_pairs l.left l.right ≡ same_pairs l.one l.other

abbrev pub decreases-pairs : goal.decreases-pairs
decreases-pairs l = length l.left
