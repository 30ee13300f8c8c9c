use Rattle.std.proofs.Common.{◌≡◌, ◌++◌, length}
use Rattle.std.specs.List.{AllByRecursion}
use Rattle.jac_row_codec.specs.Spelling.{guard_bytes, IsLabel}
use Rattle.jac_row_codec.proofs.encode.encode_guard.Given as goal

abbrev pub invariant-pairs : goal.invariant-pairs
invariant-pairs l = (l.bytes.items ++ guard_bytes l.rest ≡ guard_bytes l.fn.pairs) × (AllByRecursion IsLabel l.rest → AllByRecursion IsLabel l.fn.pairs)

abbrev pub decreases-pairs : goal.decreases-pairs
decreases-pairs l = length l.rest
