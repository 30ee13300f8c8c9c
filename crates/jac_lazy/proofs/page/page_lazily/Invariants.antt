use Rattle.std.proofs.Common.{[], ◌≤◌, ◌-◌, ◌^◌, length}
use Rattle.jac_lang.specs.Mirror.{application_of}
use Rattle.jac_keep.specs.WorkState.{state_of}
use Rattle.jac_shown_rows.proofs.Working.{LoopOver}
use Rattle.jac_pruned_pages.specs.Runs.{IsPageMade}
use Rattle.jac_resolve.specs.RightMemo.{IsUnderway}
use Rattle.jac_lazy.specs.Steady.{IsPageOf}
use Rattle.jac_lazy.proofs.page.page_lazily.Given as goal
use Rattle.jac_plain.specs.Shown.{worlds_of}

abbrev pub invariant-runs : goal.invariant-runs
invariant-runs g l =
    let k = g.K.Keeper in
    let worlds = worlds_of (state_of k.seen l.fn.work) in
    (l.fn.evaluations ≤ l.evaluations) ×
    IsPageMade l.made.page ×
    LoopOver k.seen l.fn.work l.work
    (IsUnderway (application_of l.app) worlds l.ctx.viewer [] l.answers ×
    IsPageOf (application_of l.app) worlds l.consulted l.made.shown
    (record { view = l.view; env = l.env; viewer = l.ctx.viewer }) l.made.page)

-- A slice has fewer than 2 ^ 64 labels.
abbrev pub decreases-runs : goal.decreases-runs
decreases-runs g l = 2 ^ 64 - length l.consulted
