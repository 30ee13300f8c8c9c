use Rattle.jac_sql_spec.specs.Statements.{reading}
use Rattle.jac_sqlkeep.proofs.Steps.{found_by_row}
use Rattle.sqlite.specs.Held.{state}
use Rattle.jac_sql_spec.proofs.Lasting.{lasts_of, row_leaves}
use Rattle.jac_sqlkeep.proofs.meta.find_schema.Goals as goal

pub returns-in-Ok-clause-found : goal.returns-in-Ok-clause-found
unfolding reading
returns-in-Ok-clause-found g c clean =
    found_by_row g.S.Store c.args.schema.now c.in-Ok.row c.args.conn.now c.query_row.new.self c.other_schema.result (c.in-Ok.ensures.row clean) c.other_schema.ensures

pub returns-in-Err-SqliteFailure-OutOfMemory-clause-found : goal.returns-in-Err-SqliteFailure-OutOfMemory-clause-found
unfolding reading
returns-in-Err-SqliteFailure-OutOfMemory-clause-found g c clean = record { answer = c.query_row.result; asked = c.query_row.ensures.row clean }

pub returns-in-Err-clause-found : goal.returns-in-Err-clause-found
unfolding reading
returns-in-Err-clause-found g c clean = record { answer = c.query_row.result; asked = c.query_row.ensures.row clean }

pub returns-in-Ok-clause-left : goal.returns-in-Ok-clause-left
unfolding reading
returns-in-Ok-clause-left g c =
    row_leaves (state g.S.Store c.args.conn.now) (state g.S.Store c.query_row.new.self) (g.met.S.Store.shut_if_dirty c.query_row.new.self.store) c.query_row.result c.query_row.ensures.row

pub returns-in-Ok-clause-lasts : goal.returns-in-Ok-clause-lasts
returns-in-Ok-clause-lasts g c = lasts_of (state g.S.Store c.args.conn.now) (state g.S.Store c.query_row.new.self) c.query_row.ensures.survives

pub returns-in-Err-SqliteFailure-OutOfMemory-clause-left : goal.returns-in-Err-SqliteFailure-OutOfMemory-clause-left
unfolding reading
returns-in-Err-SqliteFailure-OutOfMemory-clause-left g c =
    row_leaves (state g.S.Store c.args.conn.now) (state g.S.Store c.query_row.new.self) (g.met.S.Store.shut_if_dirty c.query_row.new.self.store) c.query_row.result c.query_row.ensures.row

pub returns-in-Err-SqliteFailure-OutOfMemory-clause-lasts : goal.returns-in-Err-SqliteFailure-OutOfMemory-clause-lasts
returns-in-Err-SqliteFailure-OutOfMemory-clause-lasts g c = lasts_of (state g.S.Store c.args.conn.now) (state g.S.Store c.query_row.new.self) c.query_row.ensures.survives

pub returns-in-Err-clause-left : goal.returns-in-Err-clause-left
unfolding reading
returns-in-Err-clause-left g c =
    row_leaves (state g.S.Store c.args.conn.now) (state g.S.Store c.query_row.new.self) (g.met.S.Store.shut_if_dirty c.query_row.new.self.store) c.query_row.result c.query_row.ensures.row

pub returns-in-Err-clause-lasts : goal.returns-in-Err-clause-lasts
returns-in-Err-clause-lasts g c = lasts_of (state g.S.Store c.args.conn.now) (state g.S.Store c.query_row.new.self) c.query_row.ensures.survives
