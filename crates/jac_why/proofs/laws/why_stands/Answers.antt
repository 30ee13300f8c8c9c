use Rattle.jac_why.proofs.Explaining.{law_stands}
use Rattle.jac_why.proofs.laws.why_stands.Goals as goal

pub returns : goal.returns
returns c = law_stands
