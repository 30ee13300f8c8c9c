use Rattle.std.proofs.Common.{◌∙◌, ◌∷◌, [], ◌++◌, refl, sym}
use Rattle.jac_plain.specs.Expressions.{binding}
use Rattle.jac_shown_rows.proofs.Names.{look-passed}
use Rattle.jac_shown_rows.proofs.comparison.outer_value.Goals as goal

pub returns : goal.returns
returns c u =
    let env = c.args.env.now in
    let inner = binding c.args.inner.now u in
    c.in_ok-value.ensures ∙ sym (look-passed (env ++ inner ∷ []) env inner c.args.name.now refl (sym c.eq.ensures ∙ c.if-eq.false))
