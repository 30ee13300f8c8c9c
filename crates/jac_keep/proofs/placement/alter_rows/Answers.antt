use Rattle.std.proofs.Common.{sym, ◌∙◌, ap}
use Rattle.jac_keep.specs.Records.{are_in_order}
use Rattle.jac_keep.proofs.OrderLaws.{ordered_if_tested}
use Rattle.jac_keep.proofs.placement.alter_rows.Goals as goal

pub alter_ordered-requires-clause-ordered : goal.alter_ordered-requires-clause-ordered
alter_ordered-requires-clause-ordered c =
    ordered_if_tested 0 c.args.rows.items (ap (are_in_order 0) (sym c.as_slice.ensures.value) ∙ sym c.is_in_order.ensures ∙ c.if-is_in_order.true)
