use Rattle.jac_table_cache.proofs.HeldLaws.{held_after}
use Rattle.jac_table_cache.proofs.cache.TableCache.apply.Goals as goal

pub invariant_of-self : goal.invariant_of-self
invariant_of-self g c =
    held_after (g.K.Keeper.seen c.self.inside.keeper) (g.K.Keeper.seen c.apply.new.self) c.args.change.now c.self.inside.tables c.alter.new.self c.self.invariant
    c.alter.ensures c.in-Ok.ensures.kept.told c.in-Ok.ensures.kept.good c.in-Ok.ensures.exact
