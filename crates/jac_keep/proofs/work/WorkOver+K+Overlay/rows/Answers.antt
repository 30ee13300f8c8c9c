use Rattle.jac_keep.proofs.WorkLaws.{rows_read}
use Rattle.jac_keep.proofs.work.WorkOver+K+Overlay.rows.Goals as goal

pub returns-clause-exact : goal.returns-clause-exact
returns-clause-exact g c = λ told.
    let placed = rw (c.in_ok-rows.ensures.reads.left.same_state told.told) at told.placed in
    rows_read _ _ _ _ _ placed (c.in_ok-rows.ensures.exact told.told) (rw c.from.ensures at c.in_ok-rows-2.ensures.altered)
