use Rattle.std.proofs.Common.{◌+◌, length}
use Rattle.jac_world.proofs.Merging.{Merging}
use Rattle.jac_world.proofs.guard.merge.Given as goal

abbrev pub invariant-pairs : goal.invariant-pairs
invariant-pairs l = Merging l.fn.first l.fn.second l.out.items l.left l.right

abbrev pub decreases-pairs : goal.decreases-pairs
decreases-pairs l = length l.left + length l.right
