use Rattle.jac_table_cache.proofs.HoldingLaws.{holding_none}
use Rattle.jac_table_cache.proofs.held.HeldTables.none.Goals as goal

pub invariant_of-result : goal.invariant_of-result
invariant_of-result c = rw c.new.ensures.items (holding_none c.none.result c.none.ensures)
