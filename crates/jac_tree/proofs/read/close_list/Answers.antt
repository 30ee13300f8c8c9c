use Rattle.std.proofs.Common.{◌≡◌, length, refl, arith}
use Rattle.jac_tree.proofs.States.{opened, none_open, close_step, close_shallow, close_stuck}
use Rattle.jac_tree.proofs.read.close_list.Goals as goal

pub returns-in-None-clause-steps : goal.returns-in-None-clause-steps
returns-in-None-clause-steps c =
    let n : length c.args.stack.now.items ≡ 0 = omega (arith, c.in-None.ensures.cases.0) in
    (refl, close_stuck _ (none_open c.args.stack.now.items n))

pub returns-in_ok-place-in-Some-clause-steps : goal.returns-in_ok-place-in-Some-clause-steps
returns-in_ok-place-in-Some-clause-steps c =
    close_step _ _ _ _ _ _ (opened _ _ _ c.in-Some.ensures.items) c.before-in-Some.ensures c.in_ok-place-in-Some.ensures.settles

pub returns-in_ok-place-in-Some-clause-shallow : goal.returns-in_ok-place-in-Some-clause-shallow
returns-in_ok-place-in-Some-clause-shallow c (h, k) =
    let (m, n) = close_shallow _ _ _ _ (opened _ _ _ c.in-Some.ensures.items) c.before-in-Some.ensures h in
    c.in_ok-place-in-Some.ensures.shallow m n
