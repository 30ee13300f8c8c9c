use Rattle.std.proofs.Common.{◌∙◌, ◌++◌, ap, Some}
use Rattle.jac_value.specs.declared.value.Value.TheVariants as value
use Rattle.jac_lang.specs.Mirror.{expression_of}
use Rattle.jac_plain.specs.Expressions.{mean}
use Rattle.jac_shown_rows.proofs.Compared.{if_some}
use Rattle.jac_shown_rows.proofs.OwnRows.{if_ok}
use Rattle.jac_shown_rows.proofs.comparison.comparison_at.Goals as goal

pub returns-in-Some : goal.returns-in-Some
returns-in-Some c =
    if_ok c.compared_with.result _ _
    (λ o h. if_some o _ _
    (λ k is.
    record {
      means = λ w models this viewer j.
          ap (λ es. mean w (expression_of c.args.cond.now) (c.args.env.now ++ es)) (c.in-Some.ensures (value.Ref (Some j)))
          ∙ is.means w models this viewer j;
      local = is.local;
      within = is.within;
    }) h)
    c.compared_with.ensures
