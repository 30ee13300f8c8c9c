use Rattle.std.proofs.Common.{◌+◌, length}
use Rattle.jac_world.specs.World.{IsApart}
use Rattle.jac_sqlkeep.proofs.alternatives.is_apart.Given as goal

abbrev pub invariant-pairs : goal.invariant-pairs
invariant-pairs l = IsApart l.left l.right → IsApart l.fn.first l.fn.second

abbrev pub decreases-pairs : goal.decreases-pairs
decreases-pairs l = length l.left + length l.right
