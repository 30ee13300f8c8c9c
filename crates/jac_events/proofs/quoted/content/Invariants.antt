use Rattle.std.proofs.Common.{◌≡◌, length}
use Rattle.jac_events.specs.Words.{read_quoted}
use Rattle.jac_events.specs.Fronts.{with_front}
use Rattle.jac_events.proofs.quoted.content.Given as goal

-- What was read so far, followed by what is read from the rest, is what is read from all bytes.
abbrev pub invariant-pieces : goal.invariant-pieces
invariant-pieces l = with_front l.made.items (read_quoted l.left) ≡ read_quoted l.bytes

abbrev pub decreases-pieces : goal.decreases-pieces
decreases-pieces l = length l.left
