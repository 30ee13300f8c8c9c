use Rattle.jac_tree.proofs.Printing.{spelled_atoms}
use Rattle.jac_tree.proofs.print.spelled_has_atoms.Goals as goal

pub returns : goal.returns
returns c = spelled_atoms
