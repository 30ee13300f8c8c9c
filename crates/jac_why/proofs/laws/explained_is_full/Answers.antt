use Rattle.jac_why.proofs.Explaining.{law_full}
use Rattle.jac_why.proofs.laws.explained_is_full.Goals as goal

pub returns : goal.returns
returns c = law_full
