use Rattle.jac_upgrade.proofs.Itself.{law_extends}
use Rattle.jac_upgrade.proofs.laws.extends_itself.Goals as goal

pub returns : goal.returns
returns c = law_extends
