use Rattle.std.proofs.Common.{◌≡◌, ◌++◌, length}
use Rattle.jac_value.specs.Quoted.{all_escaped}
use Rattle.jac_replies.proofs.quotes.put_escaped.Given as goal

-- What was added so far, followed by what is added for the rest, is what is added for all.
abbrev pub invariant-pieces : goal.invariant-pieces
invariant-pieces l = l.to.items ++ all_escaped l.left ≡ l.fn.to.items ++ all_escaped l.bytes

abbrev pub decreases-pieces : goal.decreases-pieces
decreases-pieces l = length l.left
