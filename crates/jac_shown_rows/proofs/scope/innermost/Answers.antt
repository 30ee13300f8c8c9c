use Rattle.std.proofs.Common.{sym, ◌∙◌}
use Rattle.jac_shown_rows.proofs.Names.{look-found, look-passed}
use Rattle.jac_shown_rows.proofs.scope.innermost.Goals as goal

pub returns-then-eq : goal.returns-then-eq
returns-then-eq c =
    sym (look-found c.bindings.rest.now c.in-Some.outer.now c.in-Some.binding.now c.args.name.now c.in-Some.ensures.cases.0 (sym c.eq.ensures ∙ c.if-eq.true))
    ∙ c.bindings.invariant

pub bindings-preserved : goal.bindings-preserved
bindings-preserved c =
    sym (look-passed c.bindings.rest.now c.in-Some.outer.now c.in-Some.binding.now c.args.name.now c.in-Some.ensures.cases.0 (sym c.eq.ensures ∙ c.if-eq.false))
    ∙ c.bindings.invariant
