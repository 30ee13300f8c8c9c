use Rattle.std.proofs.Common.{◌≡◌, drop}
use Rattle.jac_keep.specs.Records.{are_in_order}
use Rattle.jac_keep.proofs.placement.is_in_order.Given as goal

abbrev pub invariant-rows : goal.invariant-rows
invariant-rows l = are_in_order l.last (drop l.row-index l.rows) ≡ are_in_order 0 l.rows
