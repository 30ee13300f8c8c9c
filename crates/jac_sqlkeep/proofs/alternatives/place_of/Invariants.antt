use Rattle.std.proofs.Common.{◌≤◌, ◌-◌, length}
use Rattle.jac_sqlkeep.proofs.alternatives.place_of.Given as goal

abbrev pub invariant-halves : goal.invariant-halves
invariant-halves l = (l.low ≤ l.high) × (l.high ≤ length l.guards)

abbrev pub decreases-halves : goal.decreases-halves
decreases-halves l = l.high - l.low
