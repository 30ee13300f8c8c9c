use Rattle.std.proofs.Common.{◌≡◌, length}
use Rattle.jac_row_merge.specs.Merged.{guard_before}
use Rattle.jac_row_merge.proofs.guards.comes_before.Given as goal

abbrev pub invariant-pairs : goal.invariant-pairs
invariant-pairs l = guard_before l.left l.right ≡ guard_before l.one l.other

abbrev pub decreases-pairs : goal.decreases-pairs
decreases-pairs l = length l.left
