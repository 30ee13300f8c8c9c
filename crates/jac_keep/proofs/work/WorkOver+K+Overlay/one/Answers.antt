use Rattle.std.proofs.Common.{◌∙◌}
use Rattle.jac_keep.proofs.WorkLaws.{named_read, other_read}
use Rattle.jac_keep.proofs.work.WorkOver+K+Overlay.one.Goals as goal

pub returns-in_ok-rows-in-Some-clause-exact : goal.returns-in_ok-rows-in-Some-clause-exact
returns-in_ok-rows-in-Some-clause-exact g c = λ told. c.in_ok-rows-in-Some.ensures ∙ named_read _ _ _ _ told.placed c.in-Some.ensures.apart c.in-Some.ensures.found

pub returns-in_ok-rows-in-None-clause-exact : goal.returns-in_ok-rows-in-None-clause-exact
returns-in_ok-rows-in-None-clause-exact g c = λ told.
    let placed = rw (c.in_ok-rows-in-None.ensures.reads.left.same_state told.told) at told.placed in
    other_read _ _ _ _ placed c.in-None.ensures.apart c.in-None.ensures.found (c.in_ok-rows-in-None.ensures.exact told.told)
