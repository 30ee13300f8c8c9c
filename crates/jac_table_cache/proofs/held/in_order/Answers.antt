use Rattle.std.proofs.Common.{◌∙◌, ap, sym}
use Rattle.jac_keep.specs.Records.{are_in_order}
use Rattle.jac_keep.proofs.OrderLaws.{ordered_if_tested}
use Rattle.jac_table_cache.proofs.held.in_order.Goals as goal

pub returns-then-is_in_order-clause-ordered : goal.returns-then-is_in_order-clause-ordered
returns-then-is_in_order-clause-ordered c =
    ordered_if_tested 0 c.args.rows (ap (are_in_order 0) (sym c.as_slice.ensures) ∙ sym c.is_in_order.ensures ∙ c.if-is_in_order.true)
