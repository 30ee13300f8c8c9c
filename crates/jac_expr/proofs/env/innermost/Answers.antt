use Rattle.std.proofs.Common.{sym, ◌∙◌}
use Rattle.jac_expr.proofs.Names.{look-found, look-passed}
use Rattle.jac_expr.proofs.env.innermost.Goals as goal

pub returns-then-eq : goal.returns-then-eq
returns-then-eq c w =
    sym (look-found w c.bindings.rest.now c.in-Some.outer.now c.in-Some.binding.now c.args.name.now c.in-Some.ensures.cases.0 (sym c.eq.ensures ∙ c.if-eq.true))
    ∙ c.bindings.invariant w

pub bindings-preserved : goal.bindings-preserved
bindings-preserved c w =
    sym (look-passed w c.bindings.rest.now c.in-Some.outer.now c.in-Some.binding.now c.args.name.now c.in-Some.ensures.cases.0 (sym c.eq.ensures ∙ c.if-eq.false))
    ∙ c.bindings.invariant w
