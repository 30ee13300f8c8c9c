use Rattle.std.proofs.Common.{rules, ◌==◌, ◌∙◌, ap}
use Rattle.std.proofs.lemmas.Fn.{filter_same}
use Rattle.jac_rows.specs.declared.row.Row.{Row}
use Rattle.jac_keep.specs.Records.{alternatives}
use Rattle.jac_expr.proofs.Rows.{filter-alternatives}
use Rattle.jac_expr.proofs.reading.only.Goals as goal

pub returns : goal.returns
returns c =
    c.from_vec.ensures
    ∙ filter_same _ (λ (r : Row). r.id == c.args.id) _ (λ x b f' k. (search rules, search rules)) _ _ c.retain.ensures.filtered
    ∙ filter-alternatives c.args.id c.into_vec-rows.result.items
    ∙ ap (alternatives c.args.id) c.into_vec-rows.ensures
