use Rattle.std.proofs.Common.{◌≤◌}
use Rattle.jac_row_codec.specs.Reading.{Halfway}
use Rattle.jac_row_codec.proofs.number.number.Given as goal

abbrev pub invariant-bytes : goal.invariant-bytes
invariant-bytes l = (l.left ≤ l.width) × Halfway l.low l.high l.width l.bytes l.left l.value l.rest

abbrev pub decreases-bytes : goal.decreases-bytes
decreases-bytes l = l.left
