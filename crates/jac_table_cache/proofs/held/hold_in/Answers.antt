use Rattle.jac_table_cache.proofs.HoldingLaws.{holding_put}
use Rattle.jac_table_cache.proofs.held.hold_in.Goals as goal

pub returns-clause-holding : goal.returns-clause-holding
returns-clause-holding c =
    holding_put c.put_in.result c.args.model c.args.rows c.args.tables.now.items c.put_in.new.tables.items c.args.indexes.now c.forget_one.new.self c.requires.holding c.requires.ordered c.forget_one.ensures c.put_in.ensures.put c.put_in.ensures.kept
