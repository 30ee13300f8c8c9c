use Rattle.std.proofs.Common.{◌≡◌, rules, refl, ◌∙◌, ℤ, List, ◌++◌, ◌∷◌, [], Vec, Global}
use Rattle.sqlite_value.specs.Order.{Row as Values}
use Rattle.jac_keep.specs.Schema.{shapes_by}
use Rattle.jac_sql_spec.proofs.Streams.{streams_made, streams_next, streams_end, streams_failed, streams_full, streams_cut}
use Rattle.jac_sqlkeep.specs.Lines.{AreLinesRead, ReadsLine}
use Rattle.jac_sqlkeep.specs.declared.stored.Line.{Line}
use Rattle.jac_sqlkeep.proofs.Rows.{LinesTo, lines_start, lines_next, lines_end}
use Rattle.jac_sqlkeep.proofs.stored.lines_shown.Goals as goal

pub rows-init : goal.rows-init
rows-init g c =
    let shapes = shapes_by c.args.shape.now.kinds c.args.shape.now.nested in
    let last = c.new_record-last.result in (
      refl,
      λ question first so. streams_made g.S.Store question (λ found. LinesTo shapes c.args.number found last.model last.id last.guards.guards.items last.guards.in_order c.new-rowids.result.items) first c.args.showing.now.conn.now
          (rw (c.new_record-last.ensures.model, c.new_record-last.ensures.id, c.new-rowids.ensures.items) (lines_start shapes c.args.number last.guards.guards.items last.guards.in_order c.requires c.new_record-last.ensures.guards)) so,
      λ none. none,
    )

pub rows-preserved : goal.rows-preserved
rows-preserved g c =
    let shapes = shapes_by c.args.shape.now.kinds c.args.shape.now.nested in
    let n = c.args.number in
    let last = c.rows.last in
    let ids = c.rows.rowids.items in
    let line = c.in-Ok-Some.line in
    let step = c.next_line.ensures in
    let whole : c.in_ok-rowids-in-Ok-Some.rowids.items ≡ ids ++ line.rowid ∷ [] = search rules in (
      step.same ∙ c.rows.invariant.0,
      λ question first so. rw whole
          (streams_next g.S.Store question
          (λ (v : Values) (x : Line). ReadsLine shapes n last.model last.id last.guards.guards.items last.guards.in_order v x.last.model x.last.id x.last.guards.guards.items x.last.guards.in_order x.rowid)
          (λ found. LinesTo shapes n found last.model last.id last.guards.guards.items last.guards.in_order ids)
          (λ found. LinesTo shapes n found line.last.model line.last.id line.last.guards.guards.items line.last.guards.in_order (ids ++ line.rowid ∷ []))
          first c.rows.showing.conn.now c.next_line.new.showing.conn.now line (c.rows.invariant.1 question first so) step.lasts
          (λ clean. rw (c.in-Ok-Some.is, c.in-Ok-Some.field-0-is) at (step.steps clean))
          (λ given v to is. lines_next shapes n given last.model last.id last.guards.guards.items last.guards.in_order ids v line.rowid line.last.model line.last.id line.last.guards.guards.items line.last.guards.in_order is.shown is.on to)),
      λ none. step.mode (c.rows.invariant.2 none),
    )

pub returns-in_err-rowids-in-Ok-Some-clause-reads : goal.returns-in_err-rowids-in-Ok-Some-clause-reads
returns-in_err-rowids-in-Ok-Some-clause-reads g c question first so =
    let shapes = shapes_by c.args.shape.now.kinds c.args.shape.now.nested in
    let n = c.args.number in
    let last = c.rows.last in
    let step = c.next_line.ensures in
    streams_full g.S.Store question
    (λ (v : Values) (x : Line). ReadsLine shapes n last.model last.id last.guards.guards.items last.guards.in_order v x.last.model x.last.id x.last.guards.guards.items x.last.guards.in_order x.rowid)
    (λ found. LinesTo shapes n found last.model last.id last.guards.guards.items last.guards.in_order c.rows.rowids.items)
    (λ found (rowids : Vec ℤ Global). AreLinesRead shapes n found rowids.items)
    first c.rows.showing.conn.now c.next_line.new.showing.conn.now c.in-Ok-Some.line c.from_residual.result c.from_residual.ensures.0 (c.rows.invariant.1 question first so) step.lasts
    (λ clean. rw (c.in-Ok-Some.is, c.in-Ok-Some.field-0-is) at (step.steps clean))

pub returns-in-Ok-None-clause-reads : goal.returns-in-Ok-None-clause-reads
returns-in-Ok-None-clause-reads g c question first so =
    let shapes = shapes_by c.args.shape.now.kinds c.args.shape.now.nested in
    let n = c.args.number in
    let last = c.rows.last in
    let step = c.next_line.ensures in
    streams_end g.S.Store question (λ found. LinesTo shapes n found last.model last.id last.guards.guards.items last.guards.in_order c.rows.rowids.items) (λ found (rowids : Vec ℤ Global). AreLinesRead shapes n found rowids.items)
    first c.rows.showing.conn.now c.next_line.new.showing.conn.now c.rows.rowids (c.rows.invariant.1 question first so) step.lasts (λ clean. rw (c.in-Ok-None.is, c.in-Ok-None.field-0-is) at (step.steps clean))
    (λ given to. lines_end shapes n given last.model last.id last.guards.guards.items last.guards.in_order c.rows.rowids.items to)

pub returns-in-Err-clause-reads : goal.returns-in-Err-clause-reads
returns-in-Err-clause-reads g c question first so =
    let shapes = shapes_by c.args.shape.now.kinds c.args.shape.now.nested in
    let n = c.args.number in
    let last = c.rows.last in
    let step = c.next_line.ensures in
    streams_failed g.S.Store question (λ found. LinesTo shapes n found last.model last.id last.guards.guards.items last.guards.in_order c.rows.rowids.items) (λ found (rowids : Vec ℤ Global). AreLinesRead shapes n found rowids.items)
    first c.rows.showing.conn.now c.next_line.new.showing.conn.now _ refl (c.rows.invariant.1 question first so) step.lasts (λ clean. rw c.in-Err.is at (step.steps clean))

pub returns-clause-reads : goal.returns-clause-reads
returns-clause-reads g c question first so =
    let shapes = shapes_by c.args.shape.now.kinds c.args.shape.now.nested in
    let n = c.args.number in
    let last = c.rows.last in
    streams_cut g.S.Store question (λ found. LinesTo shapes n found last.model last.id last.guards.guards.items last.guards.in_order c.rows.rowids.items) (λ found (rowids : Vec ℤ Global). AreLinesRead shapes n found rowids.items)
    first c.rows.showing.conn.now _ (c.rows.invariant.1 question first so)
