use Rattle.jac_plain.proofs.GoodLaws.{good_after}
use Rattle.jac_plain.proofs.laws.good_after_request.Goals as goal

pub returns : goal.returns
returns c = good_after
