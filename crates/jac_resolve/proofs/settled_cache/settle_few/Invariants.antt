use Rattle.std.proofs.Common.{◌≤◌}
use Rattle.jac_lang.specs.Mirror.{application_of}
use Rattle.jac_keep.specs.WorkState.{state_of}
use Rattle.jac_shown_rows.proofs.Working.{LoopOver}
use Rattle.jac_resolve.proofs.Apart.{StandsWidened}
use Rattle.jac_resolve.proofs.settled_cache.settle_few.Given as goal
use Rattle.jac_plain.specs.Shown.{worlds_of}

abbrev pub invariant-widenings : goal.invariant-widenings
invariant-widenings g l =
    let k = g.K.Keeper in
    (l.fn.evaluations ≤ l.evaluations) ×
    LoopOver k.seen l.fn.work l.work (StandsWidened (application_of l.app) (worlds_of (state_of k.seen l.fn.work)) l.viewer l.fn.cache l.cache)
