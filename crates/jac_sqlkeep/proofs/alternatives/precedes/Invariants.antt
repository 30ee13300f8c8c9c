use Rattle.std.proofs.Common.{length}
use Rattle.jac_sqlkeep.specs.Alternatives.{Precedes}
use Rattle.jac_sqlkeep.proofs.alternatives.precedes.Given as goal

abbrev pub invariant-pairs : goal.invariant-pairs
invariant-pairs l = Precedes l.left l.right → Precedes l.fn.first l.fn.second

abbrev pub decreases-pairs : goal.decreases-pairs
decreases-pairs l = length l.left
