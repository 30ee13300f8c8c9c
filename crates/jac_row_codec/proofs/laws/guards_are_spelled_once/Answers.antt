use Rattle.jac_row_codec.proofs.Guards.{guard_once}
use Rattle.jac_row_codec.proofs.laws.guards_are_spelled_once.Goals as goal

pub returns : goal.returns
returns c = guard_once
