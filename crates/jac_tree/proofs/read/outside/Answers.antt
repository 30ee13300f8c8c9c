use Rattle.std.proofs.Common.{refl, sym}
use Rattle.jac_tree.specs.Reading.{open_lists}
use Rattle.jac_tree.proofs.States.{complete_stuck}
use Rattle.jac_tree.proofs.read.outside.Goals as goal

pub returns-else-is_white-clause-steps : goal.returns-else-is_white-clause-steps
returns-else-is_white-clause-steps c = rw c.in-Complete.is (refl, complete_stuck (open_lists c.args.stack.now.items) _ c.args.c (sym c.if-is_white.ensures))
