use Rattle.std.proofs.Common.{◌∙◌, ap}
use Rattle.jac_plain.specs.Expressions.{is_true}
use Rattle.jac_shown_rows.specs.Columns.{absent_in}
use Rattle.jac_shown_rows.specs.Comparisons.{two_with}
use Rattle.jac_shown_rows.proofs.comparison.is_true_at.Goals as goal

pub returns-clause-value : goal.returns-clause-value
returns-clause-value c w agree =
    let k = c.args.comparison.now in
    c.is_true_with.ensures
    ∙ ap (λ v. is_true (two_with k.is_first k.op k.value v)) (c.in_ok-cell.ensures.value w agree (absent_in k.column))
