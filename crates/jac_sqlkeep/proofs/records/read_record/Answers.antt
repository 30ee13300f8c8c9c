use Rattle.jac_sql_spec.specs.Reading.{IsRecordRow}
use Rattle.jac_sql_spec.specs.Statements.{record_reading}
use Rattle.jac_sql_spec.proofs.ReadRows.{record_told}
use Rattle.jac_sqlkeep.proofs.Read.{are_shown}
use Rattle.sqlite.specs.Held.{state}
use Rattle.jac_sql_spec.proofs.Lasting.{lasts_of}
use Rattle.jac_sqlkeep.proofs.Opened.{opened_by_rows, left_by_rows}
use Rattle.jac_sql_spec.proofs.Texts.{record_plain}
use Rattle.jac_sqlkeep.proofs.records.read_record.Goals as goal

pub returns-clause-shown : goal.returns-clause-shown
unfolding record_reading
returns-clause-shown g c clean =
    let shown = rw (c.params-to_sql.ensures, c.from-model.ensures, c.id_model.ensures, c.params-to_sql-2.ensures, c.as_slice.ensures, c.encode_id-jid.ensures) at (c.query_all-found.ensures.ok clean) in
    are_shown (λ v. v.items) g.S.Store (record_reading c.args.id) (IsRecordRow c.args.id c.args.kinds.now) c.args.conn.now c.query_all-found.new.self c.query_all-found.result c.record_found.result
    shown c.record_found.ensures.each c.record_found.ensures.none

pub returns-clause-told : goal.returns-clause-told
unfolding record_reading
returns-clause-told g c models was =
    record_told (λ v. v.items) g.S.Store models c.args.conn.now c.query_all-found.new.self c.query_all-found.result (g.met.S.Store.shut_if_dirty c.query_all-found.new.self.store) c.args.kinds.now c.record_found.result
    c.args.id c.record_found.ensures.room
    (rw (c.params-to_sql.ensures, c.from-model.ensures, c.id_model.ensures, c.params-to_sql-2.ensures, c.as_slice.ensures, c.encode_id-jid.ensures) at c.query_all-found.ensures.ok)
    (rw (c.params-to_sql.ensures, c.from-model.ensures, c.id_model.ensures, c.params-to_sql-2.ensures, c.as_slice.ensures, c.encode_id-jid.ensures) at c.query_all-found.ensures.err)
    c.record_found.ensures.each c.record_found.ensures.none was

pub returns-clause-lasts : goal.returns-clause-lasts
returns-clause-lasts g c = lasts_of (state g.S.Store c.args.conn.now) (state g.S.Store c.query_all-found.new.self) c.query_all-found.ensures.survives

pub returns-clause-opens : goal.returns-clause-opens
returns-clause-opens g c =
    opened_by_rows (state g.S.Store c.args.conn.now) (state g.S.Store c.query_all-found.new.self) (g.met.S.Store.shut_if_dirty c.query_all-found.new.self.store) (λ v. v.items) _ _ c.query_all-found.result c.query_all-found.ensures.ok
    c.query_all-found.ensures.err

pub returns-clause-left : goal.returns-clause-left
unfolding record_reading
returns-clause-left g c =
    left_by_rows (state g.S.Store c.args.conn.now) (state g.S.Store c.query_all-found.new.self) (g.met.S.Store.shut_if_dirty c.query_all-found.new.self.store) (λ v. v.items) _ _ record_plain.0 c.query_all-found.result c.query_all-found.ensures.ok
    c.query_all-found.ensures.err
