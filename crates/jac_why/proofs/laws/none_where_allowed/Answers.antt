use Rattle.jac_why.proofs.Explaining.{law_none}
use Rattle.jac_why.proofs.laws.none_where_allowed.Goals as goal

pub returns : goal.returns
returns c = law_none
