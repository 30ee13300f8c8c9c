use Rattle.std.proofs.Common.{arith}
use Rattle.jac_facet.specs.Shape.{at}
use Rattle.jac_plain.specs.Expressions.{is_true, pick}
use Rattle.jac_expr.proofs.Leaves.{last_leaf}
use Rattle.jac_expr.proofs.choice.choose.Goals as goal

pub returns : goal.returns
returns g c w held =
    let first = at w c.args.first.now in
    let second = at w c.args.second.now in
    last_leaf w c.args.pc.now (λ v. pick (is_true v) first second) second (at w c.leaves.chosen) (at w c.args.condition.now)
    c.as_slice-all.result.now c.in_ok-leaves.leaves c.leaves.leaf-index
    c.as_slice-all.ensures (omega arith) (c.in_ok-leaves.ensures.seen w) held (c.leaves.invariant w)
