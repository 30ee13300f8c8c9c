use Rattle.std.proofs.Common.{◌≤◌}
use Rattle.jac_lang.specs.declared.expressions.Exprs.{size-Exprs}
use Rattle.jac_lang.proofs.+expr.Given as goal

abbrev pub invariant-expressions::Exprs::drop-parts : goal.invariant-expressions::Exprs::drop-parts
invariant-expressions::Exprs::drop-parts l = size-Exprs l.self ≤ size-Exprs l.fn.self
