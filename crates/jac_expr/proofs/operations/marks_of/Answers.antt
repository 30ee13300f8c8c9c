use Rattle.std.proofs.Common.{arith}
use Rattle.jac_expr.proofs.AtTuples.{truths-more}
use Rattle.jac_expr.proofs.operations.marks_of.Goals as goal

pub values-preserved : goal.values-preserved
values-preserved g c w =
    truths-more w c.values.marks.items c.push.new.self.items c.in_ok-mark.mark c.args.values.now c.value-item.result c.values.value-index
    c.in_ok-push.ensures.items (c.in_ok-mark.ensures w) c.value-item.is (omega arith) (c.values.invariant w)
