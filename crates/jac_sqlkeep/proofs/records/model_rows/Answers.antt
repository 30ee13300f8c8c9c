use Rattle.std.proofs.Common.{◌≡◌, rules, subst}
use Rattle.jac_sql_spec.specs.Reading.{Each, IsModelRow}
use Rattle.jac_sql_spec.specs.Statements.{model_reading}
use Rattle.jac_sql_spec.specs.Streams.{ReadsThrough}
use Rattle.jac_sql_spec.proofs.Streams.{streams_start, streams_refused}
use Rattle.jac_sqlkeep.proofs.records.model_rows.Goals as goal

pub returns-in-Ok-clause-reads : goal.returns-in-Ok-clause-reads
unfolding model_reading
returns-in-Ok-clause-reads g c =
    let question = model_reading c.args.model in
    let begun = rw (c.params-to_sql.ensures, c.from.ensures) at c.in-Ok.ensures.begun in
    let read = c.rows_shown.ensures.reads question c.args.conn.now (streams_start g.S.Store question c.args.conn.now c.in-Ok.showing.conn.now c.in-Ok.ensures.survives begun) in
    let same : c.rows_shown.new.showing.conn.now ≡ c.conn-1.given.0 = search rules in
    subst (λ h. ReadsThrough g.S.Store question (Each (IsModelRow c.args.model c.args.kinds.now)) c.args.conn.now h c.rows_shown.result) same read

pub returns-in-Err-clause-reads : goal.returns-in-Err-clause-reads
unfolding model_reading
returns-in-Err-clause-reads g c =
    let refused = rw (c.params-to_sql.ensures, c.from.ensures, c.in-Err.is) at c.query.follows.holds-at-none in
    streams_refused g.S.Store (model_reading c.args.model) (Each (IsModelRow c.args.model c.args.kinds.now)) c.args.conn.now c.query.follows.lender-at-none c.in-Err.error c.in-Err.error refused
