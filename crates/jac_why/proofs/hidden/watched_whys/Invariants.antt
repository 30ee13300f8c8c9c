use Rattle.std.proofs.Common.{◌≡◌, ◌≤◌, ◌++◌, [], drop}
use Rattle.jac_lang.specs.Mirror.{application_of}
use Rattle.jac_keep.specs.WorkState.{state_of}
use Rattle.jac_plain.specs.Policies.{AreAllowed}
use Rattle.jac_shown_rows.proofs.Working.{LoopOver}
use Rattle.jac_why.specs.Context.{context_on}
use Rattle.jac_why.specs.Watched.{AreWatching}
use Rattle.jac_why.specs.Whys.{all_whys}
use Rattle.jac_why.proofs.hidden.watched_whys.Given as goal
use Rattle.jac_plain.specs.Shown.{worlds_of}

abbrev pub invariant-labels : goal.invariant-labels
invariant-labels g l =
    let k = g.K.Keeper in
    let s = state_of k.seen l.fn.work in
    let context = context_on s l.context in
    (l.fn.evaluations ≤ l.evaluations) ×
    LoopOver k.seen l.fn.work l.work
    (AreAllowed (application_of l.context.app.now) (worlds_of s) l.context.viewer l.context.labels.now → AreWatching context [] l.watchers →
    l.whys.items ++ all_whys context (drop l.label-index l.live) ≡ all_whys context l.live)
