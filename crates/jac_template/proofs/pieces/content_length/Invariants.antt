use Rattle.std.proofs.Common.{◌≡◌, ◌+◌, length}
use Rattle.jac_template.specs.Pieces.{content_length}
use Rattle.jac_template.specs.Quoting.{further, length_at}
use Rattle.jac_template.proofs.pieces.content_length.Given as goal

abbrev pub invariant-bytes : goal.invariant-bytes
invariant-bytes l = record {
  size : l.length + length l.left ≡ length l.bytes;
  before : further l.length (length_at l.quoting l.mark l.left) ≡ content_length l.mark l.bytes;
}

abbrev pub decreases-bytes : goal.decreases-bytes
decreases-bytes l = length l.left
