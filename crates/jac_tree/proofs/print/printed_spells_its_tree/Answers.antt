use Rattle.jac_tree.proofs.Printing.{printed_spells}
use Rattle.jac_tree.proofs.print.printed_spells_its_tree.Goals as goal

pub returns : goal.returns
returns c = printed_spells
