use Rattle.jac_lang.specs.Mirror.{application_of}
use Rattle.jac_keep.specs.WorkState.{state_of}
use Rattle.jac_admin.proofs.ExplainLemmas.{all_lines}
use Rattle.jac_admin.proofs.hidden.shown_lines.Goals as goal

pub returns-clause-text : goal.returns-clause-text
returns-clause-text g c told allowed =
    let k = g.K.Keeper in
    let asked = c.in_ok-text.ensures.reads.same.told told in
    all_lines (application_of c.args.app.now) c.args.viewer.now (state_of k.seen c.args.work.now) (state_of k.seen c.whys.new.work)
    c.args.shown.now c.args.live.now c.in_ok-text.text c.in_ok-found.found.items
    (c.in_ok-found.ensures.reads.same.same_state asked) (c.in_ok-found.ensures.whys asked allowed)
    (rw c.as_slice.ensures.value at (c.in_ok-text.ensures.text told))
