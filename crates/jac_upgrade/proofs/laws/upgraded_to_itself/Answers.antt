use Rattle.jac_upgrade.proofs.Itself.{law_upgraded}
use Rattle.jac_upgrade.proofs.laws.upgraded_to_itself.Goals as goal

pub returns : goal.returns
returns c = law_upgraded
