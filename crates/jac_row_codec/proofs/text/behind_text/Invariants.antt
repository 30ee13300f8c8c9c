use Rattle.jac_row_codec.specs.Reading.{TextSoFar}
use Rattle.jac_row_codec.proofs.text.behind_text.Given as goal

abbrev pub invariant-bytes : goal.invariant-bytes
invariant-bytes l = TextSoFar l.fn.long l.fn.bytes l.unread l.rest

abbrev pub decreases-bytes : goal.decreases-bytes
decreases-bytes l = l.unread.left
