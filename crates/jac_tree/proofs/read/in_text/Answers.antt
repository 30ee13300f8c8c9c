use Rattle.std.proofs.Common.{◌≢◌, arith, rules}
use Rattle.jac_tree.proofs.States.{shallow_few, end_text_step, text_step}
use Rattle.jac_tree.proofs.read.in_text.Goals as goal

pub returns-in_ok-place-in-34-clause-steps : goal.returns-in_ok-place-in-34-clause-steps
returns-in_ok-place-in-34-clause-steps c =
    end_text_step _ _ c.args.c _ _ _ c.in-34.is c.from_string.ensures c.in_ok-place-in-34.ensures.settles

pub returns-in_ok-place-in-34-clause-shallow : goal.returns-in_ok-place-in-34-clause-shallow
returns-in_ok-place-in-34-clause-shallow c h =
    let n = shallow_few _ h in
    c.in_ok-place-in-34.ensures.shallow h (omega arith)

pub returns-in_ok-text-in_default-clause-steps : goal.returns-in_ok-text-in_default-clause-steps
returns-in_ok-text-in_default-clause-steps c =
    let n : c.args.c ≢ 34 = search rules in
    let m : c.args.c ≢ 92 = search rules in
    text_step _ c.args.c _ _ n m c.in_ok-text-in_default.ensures
