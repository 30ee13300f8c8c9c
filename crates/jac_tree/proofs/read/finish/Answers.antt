use Rattle.std.proofs.Common.{refl}
use Rattle.jac_tree.specs.Reading.{open_lists}
use Rattle.jac_tree.proofs.States.{open_unfinished, text_unfinished, escape_unfinished}
use Rattle.jac_tree.proofs.read.finish.Goals as goal

pub returns-in-Outside-Open-clause-finishes : goal.returns-in-Outside-Open-clause-finishes
returns-in-Outside-Open-clause-finishes c =
    rw (c.in-Outside-Open.is, c.in-Outside-Open.field-0-is) (refl, λ t. open_unfinished (open_lists c.args.stack.now) t)

pub returns-in-InAtom-clause-finishes : goal.returns-in-InAtom-clause-finishes
returns-in-InAtom-clause-finishes c = rw c.in-InAtom.is c.in_ok-tree-in-InAtom.ensures.finishes

pub returns-in-InText-clause-finishes : goal.returns-in-InText-clause-finishes
returns-in-InText-clause-finishes c = rw c.in-InText.is (refl, λ t. text_unfinished (open_lists c.args.stack.now) _ t)

pub returns-clause-finishes : goal.returns-clause-finishes
returns-clause-finishes c = rw c.in-InEscape.is (refl, λ t. escape_unfinished (open_lists c.args.stack.now) _ t)
