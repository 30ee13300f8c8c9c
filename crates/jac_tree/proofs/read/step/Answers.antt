use Rattle.std.proofs.lemmas.Result.{err_from_is_err_and}
use Rattle.jac_tree.specs.Reading.{open_lists}
use Rattle.jac_tree.proofs.read.step.Goals as goal

pub returns-in_err-next-in-InEscape-clause-steps : goal.returns-in_err-next-in-InEscape-clause-steps
returns-in_err-next-in-InEscape-clause-steps c =
    let p = err_from_is_err_and c.from_residual-in_err-next-in-InEscape.result c.from_residual-in_err-next-in-InEscape.ensures.1 in
    rw (p.1, p.2, c.in-InEscape.is) (c.in_err-next-in-InEscape.ensures.steps (open_lists c.args.stack.now.items))
