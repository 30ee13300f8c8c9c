use Rattle.std.proofs.Common.{sym}
use Rattle.jac_keep.specs.Indexed.{index_at}
use Rattle.jac_table_cache.proofs.HoldingLaws.{gone_held, same_held}
use Rattle.jac_table_cache.proofs.indexes.forget_if_dropped.Goals as goal

pub returns-in-Some-clause-gone : goal.returns-in-Some-clause-gone
returns-in-Some-clause-gone c m none =
    gone_held c.args.model m c.args.tables.now c.in-Some.rows.now (index_at m c.args.indexes.now) (sym c.in-Some.ensures) none

pub returns-in-None-clause-same : goal.returns-in-None-clause-same
returns-in-None-clause-same c m rows is =
    same_held c.args.model m c.args.tables.now rows (index_at m c.args.indexes.now) (index_at m c.forget_one.new.self) (sym c.in-None.ensures) is (c.forget_one.ensures m)
