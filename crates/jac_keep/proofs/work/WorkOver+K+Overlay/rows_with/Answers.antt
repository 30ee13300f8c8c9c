use Rattle.jac_keep.proofs.Held.{rows_with_read}
use Rattle.jac_keep.proofs.work.WorkOver+K+Overlay.rows_with.Goals as goal

pub returns-clause-exact : goal.returns-clause-exact
returns-clause-exact g c = λ told.
    let placed = rw (c.in_ok-rows.ensures.reads.left.same_state told.told) at told.placed in
    rows_with_read _ _ _ _ _ _ _ _ placed c.in_ok-masks.ensures.apart (c.in_ok-rows.ensures.exact told.told) c.in_ok-masks.ensures.masked (rw c.from.ensures at c.in_ok-found.ensures.altered)
