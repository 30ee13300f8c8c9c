use Rattle.jac_why.proofs.Explaining.{law_settled}
use Rattle.jac_why.proofs.laws.settled_is_explained.Goals as goal

pub returns : goal.returns
returns c = law_settled
