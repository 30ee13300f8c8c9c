use Rattle.jac_sql_spec.specs.Reading.{Each, IsModelRow}
use Rattle.jac_sql_spec.specs.Statements.{model_reading}
use Rattle.jac_sql_spec.proofs.Streams.{model_through, through_opens, through_leaves, through_shown}
use Rattle.jac_sql_spec.proofs.Texts.{model_plain}
use Rattle.jac_sqlkeep.proofs.records.read_model.Goals as goal

pub returns-clause-shown : goal.returns-clause-shown
returns-clause-shown g c clean =
    through_shown g.S.Store (model_reading c.args.model) (IsModelRow c.args.model c.args.kinds.now) c.args.conn.now c.model_rows.new.conn c.model_rows.result (c.model_rows.ensures.reads.shown clean)

pub returns-clause-told : goal.returns-clause-told
returns-clause-told g c models was =
    model_through g.S.Store models c.args.model c.args.kinds.now c.args.conn.now c.model_rows.new.conn c.model_rows.result (g.met.S.Store.shut_if_dirty c.model_rows.new.conn.store) c.model_rows.ensures.reads was

pub returns-clause-lasts : goal.returns-clause-lasts
returns-clause-lasts g c = c.model_rows.ensures.reads.lasts

pub returns-clause-opens : goal.returns-clause-opens
returns-clause-opens g c =
    through_opens g.S.Store (model_reading c.args.model) (Each (IsModelRow c.args.model c.args.kinds.now)) c.args.conn.now c.model_rows.new.conn c.model_rows.result (g.met.S.Store.shut_if_dirty c.model_rows.new.conn.store) c.model_rows.ensures.reads

pub returns-clause-left : goal.returns-clause-left
unfolding model_reading
returns-clause-left g c =
    through_leaves g.S.Store (model_reading c.args.model) (Each (IsModelRow c.args.model c.args.kinds.now)) c.args.conn.now c.model_rows.new.conn c.model_rows.result (g.met.S.Store.shut_if_dirty c.model_rows.new.conn.store) c.model_rows.ensures.reads model_plain.0
