use Rattle.std.proofs.Common.{refl, ◌∙◌, ◌++◌, ◌∷◌, []}
use Rattle.jac_sql_spec.specs.Reading.{Each, IsModelRow}
use Rattle.jac_sql_spec.proofs.Streams.{streams_made, streams_next, streams_end, streams_failed, streams_full, streams_cut, each_on}
use Rattle.jac_sqlkeep.proofs.records.rows_shown.Goals as goal

pub rows-init : goal.rows-init
rows-init g c = (
  refl,
  λ question first so. streams_made g.S.Store question (λ found. Each (IsModelRow c.args.model c.args.kinds.now) found c.new-made.result.items) first c.args.showing.now.conn.now (rw c.new-made.ensures.items tt) so,
  λ none. none,
)

pub rows-preserved : goal.rows-preserved
rows-preserved g c =
    let Is = IsModelRow c.args.model c.args.kinds.now in
    let made = c.rows.made.items in
    let row = c.in-Some.row in
    let step = c.next_of_model.ensures in (
      step.same ∙ c.rows.invariant.0,
      λ question first so. rw c.in_ok-push-in-Some.ensures.items
          (streams_next g.S.Store question Is (λ found. Each Is found made) (λ found. Each Is found (made ++ row ∷ [])) first c.rows.showing.conn.now c.next_of_model.new.showing.conn.now row (c.rows.invariant.1 question first so) step.lasts
          (λ clean. rw (c.in_ok-row.was, c.in-Some.is) at (step.steps clean)) (λ given v each is. each_on Is given made v row each is)),
      λ none. step.mode (c.rows.invariant.2 none),
    )

pub returns-in_err-row-clause-reads : goal.returns-in_err-row-clause-reads
returns-in_err-row-clause-reads g c question first so =
    let Is = IsModelRow c.args.model c.args.kinds.now in
    let step = c.next_of_model.ensures in
    streams_failed g.S.Store question (λ found. Each Is found c.rows.made.items) (Each Is) first c.rows.showing.conn.now c.next_of_model.new.showing.conn.now c.from_residual.result c.from_residual.ensures.0 (c.rows.invariant.1 question first so) step.lasts
    (λ clean. rw c.in_err-row.was at (step.steps clean))

pub returns-in_err-push-in-Some-clause-reads : goal.returns-in_err-push-in-Some-clause-reads
returns-in_err-push-in-Some-clause-reads g c question first so =
    let Is = IsModelRow c.args.model c.args.kinds.now in
    let step = c.next_of_model.ensures in
    streams_full g.S.Store question Is (λ found. Each Is found c.rows.made.items) (Each Is) first c.rows.showing.conn.now c.next_of_model.new.showing.conn.now c.in-Some.row c.from_residual-in_err-push-in-Some.result
    c.from_residual-in_err-push-in-Some.ensures.0 (c.rows.invariant.1 question first so) step.lasts (λ clean. rw (c.in_ok-row.was, c.in-Some.is) at (step.steps clean))

pub returns-in-None-clause-reads : goal.returns-in-None-clause-reads
returns-in-None-clause-reads g c question first so =
    let Is = IsModelRow c.args.model c.args.kinds.now in
    let step = c.next_of_model.ensures in
    streams_end g.S.Store question (λ found. Each Is found c.rows.made.items) (Each Is) first c.rows.showing.conn.now c.next_of_model.new.showing.conn.now c.from_vec.result (c.rows.invariant.1 question first so) step.lasts
    (λ clean. rw (c.in_ok-row.was, c.in-None.is) at (step.steps clean)) (λ given each. rw c.from_vec.ensures each)

pub returns-clause-reads : goal.returns-clause-reads
returns-clause-reads g c question first so =
    let Is = IsModelRow c.args.model c.args.kinds.now in
    streams_cut g.S.Store question (λ found. Each Is found c.rows.made.items) (Each Is) first c.rows.showing.conn.now _ (c.rows.invariant.1 question first so)
