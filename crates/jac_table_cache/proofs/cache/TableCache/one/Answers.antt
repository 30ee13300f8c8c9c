use Rattle.std.proofs.Common.{subst}
use Rattle.jac_table_cache.specs.Held.{Cached, AreHeld}
use Rattle.jac_table_cache.proofs.HeldLaws.{one_held}
use Rattle.jac_table_cache.proofs.cache.TableCache.one.Goals as goal

pub returns-in-Some-clause-exact : goal.returns-in-Some-clause-exact
returns-in-Some-clause-exact g c =
    let are : AreHeld (g.K.Keeper.seen c.args.self.now.keeper) c.self.inside.tables = subst (λ (k : Cached _). AreHeld (g.K.Keeper.seen k.keeper) c.self.inside.tables) c.self.view_is c.self.invariant in
    one_held (g.K.Keeper.seen c.args.self.now.keeper) c.self.inside.tables c.args.id c.id_model.result c.in-Some.rows.now c.in_ok-rows.rows are c.in-Some.ensures c.id_model.ensures (rw c.as_slice.ensures at c.in_ok-rows.ensures)
