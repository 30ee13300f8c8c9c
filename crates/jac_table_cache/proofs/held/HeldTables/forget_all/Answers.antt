use Rattle.jac_table_cache.proofs.HoldingLaws.{holding_none}
use Rattle.jac_table_cache.proofs.held.HeldTables.forget_all.Goals as goal

pub invariant_of-self : goal.invariant_of-self
invariant_of-self c = rw c.clear.ensures.items (holding_none c.none.result c.none.ensures)
