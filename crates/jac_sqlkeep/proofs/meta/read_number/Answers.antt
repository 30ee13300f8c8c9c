use Rattle.jac_sql_spec.specs.Statements.{reading}
use Rattle.jac_sql_spec.proofs.ReadRows.{number_told}
use Rattle.jac_sqlkeep.proofs.Read.{is_asked}
use Rattle.sqlite.specs.Held.{state}
use Rattle.jac_sql_spec.proofs.Lasting.{lasts_of, row_leaves}
use Rattle.jac_sqlkeep.proofs.Opened.{opened_by_row}
use Rattle.jac_sqlkeep.proofs.meta.read_number.Goals as goal

pub returns-clause-stored : goal.returns-clause-stored
unfolding reading
returns-clause-stored g c clean = is_asked g.S.Store c.args.conn.now c.query_row-row.new.self c.query_row-row.result c.number_from.result (c.query_row-row.ensures.row clean) c.number_from.ensures.from

pub returns-clause-told : goal.returns-clause-told
unfolding reading
returns-clause-told g c models was =
    number_told g.S.Store models c.args.conn.now c.query_row-row.new.self (g.met.S.Store.shut_if_dirty c.query_row-row.new.self.store) was c.query_row-row.result c.query_row-row.ensures.row c.number_from.result c.number_from.ensures.from

pub returns-clause-left : goal.returns-clause-left
unfolding reading
returns-clause-left g c =
    row_leaves (state g.S.Store c.args.conn.now) (state g.S.Store c.query_row-row.new.self) (g.met.S.Store.shut_if_dirty c.query_row-row.new.self.store) c.query_row-row.result c.query_row-row.ensures.row

pub returns-clause-lasts : goal.returns-clause-lasts
returns-clause-lasts g c = lasts_of (state g.S.Store c.args.conn.now) (state g.S.Store c.query_row-row.new.self) c.query_row-row.ensures.survives

pub returns-clause-opens : goal.returns-clause-opens
returns-clause-opens g c =
    opened_by_row (state g.S.Store c.args.conn.now) (state g.S.Store c.query_row-row.new.self) (g.met.S.Store.shut_if_dirty c.query_row-row.new.self.store) _ _ c.query_row-row.result c.query_row-row.ensures.row
