use Rattle.jac_lang.specs.Mirror.{application_of}
use Rattle.jac_keep.specs.WorkState.{state_of}
use Rattle.jac_resolve.proofs.Collecting.{are_live, by_rows, collects_all}
use Rattle.jac_resolve.proofs.live.live_labels.Goals as goal

pub returns-clause-live : goal.returns-clause-live
returns-clause-live g c told =
    let s = state_of g.K.Keeper.seen c.args.work.now in
    are_live (application_of c.args.app.now) s c.in_ok-labels.labels.items c.rising.result (c.requires.sound (c.in_ok-labels.ensures.reads.same.told told))
    (collects_all c.args.app.now.models c.as_slice.result.now s.tables c.in_ok-labels.labels.items c.as_slice.ensures.models (c.in_ok-labels.ensures.labels told))
    c.rising.ensures.same

pub returns-clause-by_rows : goal.returns-clause-by_rows
returns-clause-by_rows g c told =
    let s = state_of g.K.Keeper.seen c.args.work.now in
    by_rows (application_of c.args.app.now) s c.in_ok-labels.labels.items c.rising.result (c.requires.sound (c.in_ok-labels.ensures.reads.same.told told))
    (collects_all c.args.app.now.models c.as_slice.result.now s.tables c.in_ok-labels.labels.items c.as_slice.ensures.models (c.in_ok-labels.ensures.labels told))
    c.rising.ensures.same
