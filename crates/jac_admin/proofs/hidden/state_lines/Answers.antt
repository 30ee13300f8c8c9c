use Rattle.std.proofs.Common.{◌∙◌}
use Rattle.jac_lang.specs.Mirror.{application_of}
use Rattle.jac_rows.specs.declared.state.State.{State}
use Rattle.jac_keep.specs.WorkState.{state_of}
use Rattle.jac_admin.proofs.ExplainLemmas.{explained}
use Rattle.jac_admin.proofs.hidden.state_lines.Goals as goal

pub returns-clause-text : goal.returns-clause-text
returns-clause-text g c told =
    let k = g.K.Keeper in
    let s : State = state_of k.seen c.args.work.now in
    let settled = c.in_ok-text.ensures.reads.same.told told in
    let listed = c.in_ok-shown.ensures.reads.same.told settled in
    let one = c.in_ok-live.ensures.reads.same.same_state listed in
    let two = c.in_ok-shown.ensures.reads.same.same_state settled ∙ one in
    explained (application_of c.args.app.now) c.args.viewer.now s (state_of k.seen c.live_labels.new.work) (state_of k.seen c.resolve.new.work)
    c.in_ok-live.live c.in_ok-shown.shown c.in_ok-text.text one two
    c.in_ok-live.ensures.ascending (c.in_ok-live.ensures.live listed) (c.in_ok-shown.ensures.settled settled)
    (rw c.as_slice-labels.ensures.labels at (c.in_ok-text.ensures.text told))
