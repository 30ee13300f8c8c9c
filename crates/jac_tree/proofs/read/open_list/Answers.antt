use Rattle.std.proofs.Common.{refl, arith, ◌≤◌, length}
use Rattle.jac_tree.specs.Reading.{open_lists}
use Rattle.jac_tree.proofs.Moves.{length-open_lists}
use Rattle.jac_tree.proofs.States.{open_step, open_shallow, open_deep}
use Rattle.jac_tree.proofs.read.open_list.Goals as goal

pub returns-then-len-ge-NESTING_LIMIT-clause-steps : goal.returns-then-len-ge-NESTING_LIMIT-clause-steps
returns-then-len-ge-NESTING_LIMIT-clause-steps c =
    let n : 64 ≤ length (open_lists c.args.stack.now.items) = omega (arith, length-open_lists c.args.stack.now.items) in
    (refl, open_deep _ n)

pub returns-clause-steps : goal.returns-clause-steps
returns-clause-steps c = open_step _ _ c.in_ok-add_list.ensures

pub returns-clause-shallow : goal.returns-clause-shallow
returns-clause-shallow c (h, k) = (open_shallow _ _ c.in_ok-add_list.ensures (omega (arith, length-open_lists c.args.stack.now.items)) h, k)
