use Rattle.std.proofs.Common.{rules, ◌≡◌, subst, [], ◌∷◌}
use Rattle.std.specs.Prelude.{IfOk, IfSome}
use Rattle.jac_lang.specs.Mirror.{expression_of}
use Rattle.jac_lang.specs.Syntax.{Expression}
use Rattle.jac_plain.specs.Expressions.{binding}
use Rattle.jac_shown_rows.specs.Comparisons.{IsComparison}
use Rattle.jac_shown_rows.proofs.comparison.compared_with.Goals as goal

pub returns-in-Two : goal.returns-in-Two
returns-in-Two c =
    let same : Expression.two c.in-Two.op (expression_of c.deref.result.now) (expression_of c.deref-in-Two.result.now) ≡ expression_of c.args.cond.now = search rules in
    subst (λ e. IfOk c.compared_by.result (λ o. IfSome o (λ k. IsComparison c.args.at.now c.args.env.now (λ v. binding c.args.name.now v ∷ []) e k))) same c.compared_by.ensures
