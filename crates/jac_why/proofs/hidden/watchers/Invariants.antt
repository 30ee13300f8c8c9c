use Rattle.std.proofs.Common.{◌≤◌, drop}
use Rattle.jac_keep.specs.WorkState.{state_of}
use Rattle.jac_shown_rows.proofs.Working.{LoopOver}
use Rattle.jac_why.specs.Context.{context_on}
use Rattle.jac_why.specs.Watched.{AreWatching}
use Rattle.jac_why.proofs.hidden.watchers.Given as goal

abbrev pub invariant-labels : goal.invariant-labels
invariant-labels g l =
    let k = g.K.Keeper in
    (l.fn.evaluations ≤ l.evaluations) ×
    LoopOver k.seen l.fn.work l.work
    (AreWatching (context_on (state_of k.seen l.fn.work) l.context) (drop l.label-index l.context.labels.now) l.watchers)
