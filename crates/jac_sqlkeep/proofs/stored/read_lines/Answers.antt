use Rattle.std.proofs.Common.{◌≡◌, rules, subst, ℤ, [], Vec, Global}
use Rattle.jac_keep.specs.Schema.{shapes_by}
use Rattle.jac_sql_spec.specs.Statements.{SqlStatement, all_reading}
use Rattle.jac_sql_spec.specs.Streams.{ReadsThrough}
use Rattle.jac_sql_spec.proofs.Streams.{streams_start, streams_refused}
use Rattle.jac_sqlkeep.specs.Lines.{AreLinesRead}
use Rattle.jac_sqlkeep.proofs.stored.read_lines.Goals as goal

pub returns-in-Ok-clause-reads : goal.returns-in-Ok-clause-reads
unfolding all_reading
returns-in-Ok-clause-reads g c =
    let question : SqlStatement = record { text = all_reading; params = [] } in
    let read = c.lines_shown.ensures.reads question c.args.conn.now (streams_start g.S.Store question c.args.conn.now c.in-Ok.showing.conn.now c.in-Ok.ensures.survives c.in-Ok.ensures.begun) in
    let same : c.lines_shown.new.showing.conn.now ≡ c.conn-1.given.0 = search rules in
    subst (λ h. ReadsThrough g.S.Store question (λ found (rowids : Vec ℤ Global). AreLinesRead (shapes_by c.args.shape.now.kinds c.args.shape.now.nested) c.args.number found rowids.items) c.args.conn.now h c.lines_shown.result) same read

pub returns-in-Err-clause-reads : goal.returns-in-Err-clause-reads
unfolding all_reading
returns-in-Err-clause-reads g c =
    let question : SqlStatement = record { text = all_reading; params = [] } in
    let refused = rw c.in-Err.is at c.query.follows.holds-at-none in
    streams_refused g.S.Store question (λ found (rowids : Vec ℤ Global). AreLinesRead (shapes_by c.args.shape.now.kinds c.args.shape.now.nested) c.args.number found rowids.items) c.args.conn.now c.query.follows.lender-at-none c.in-Err.error _ refused
