use Rattle.std.proofs.Common.{length}
use Rattle.jac_row_codec.specs.Reading.{GuardSoFar, next_low}
use Rattle.jac_row_codec.proofs.guard.guard.Given as goal

abbrev pub invariant-pairs : goal.invariant-pairs
invariant-pairs l = GuardSoFar l.fn.jvars l.pairs.items (next_low l.low) l.rest

abbrev pub decreases-pairs : goal.decreases-pairs
decreases-pairs l = length l.rest
