use Rattle.jac_tree.proofs.Unique.{spells_one}
use Rattle.jac_tree.proofs.read.spells_one_tree.Goals as goal

pub returns : goal.returns
returns c = spells_one
