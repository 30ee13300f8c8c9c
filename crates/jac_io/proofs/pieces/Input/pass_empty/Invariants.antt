use Rattle.std.proofs.Common.{◌≡◌, length}
use Rattle.jac_io.specs.LinkState.{from_next}
use Rattle.jac_io.proofs.pieces.Input.pass_empty.Given as goal

abbrev pub invariant-empty : goal.invariant-empty
invariant-empty l = from_next l.self ≡ from_next l.initial.self

abbrev pub decreases-empty : goal.decreases-empty
decreases-empty l = length l.self
