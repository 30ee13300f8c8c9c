use Rattle.jac_plain.proofs.GoodLaws.{flat_after}
use Rattle.jac_plain.proofs.laws.flat_after_request.Goals as goal

pub returns : goal.returns
returns c = flat_after
