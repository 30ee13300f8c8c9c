use Rattle.std.proofs.Common.{◌≡◌, ◌+◌, length}
use Rattle.jac_template.specs.Pieces.{literal_length}
use Rattle.jac_template.proofs.pieces.literal_length.Given as goal

abbrev pub invariant-bytes : goal.invariant-bytes
invariant-bytes l = record {
  size : l.length + length l.left ≡ length l.bytes;
  before : literal_length l.left + l.length ≡ literal_length l.bytes;
}

abbrev pub decreases-bytes : goal.decreases-bytes
decreases-bytes l = length l.left
