use Rattle.std.proofs.Common.{drop}
use Rattle.jac_lang.specs.Mirror.{application_of}
use Rattle.jac_keep.specs.WorkState.{state_of}
use Rattle.jac_shown_rows.proofs.Working.{LoopOver}
use Rattle.jac_resolve.proofs.Living.{AreLiveBut}
use Rattle.jac_resolve.proofs.live.live_of.Given as goal
use Rattle.jac_plain.specs.Shown.{worlds_of}

abbrev pub invariant-labels : goal.invariant-labels
invariant-labels g l =
    let k = g.K.Keeper in
    let worlds = worlds_of (state_of k.seen l.fn.work) in
    LoopOver k.seen l.fn.work l.work
    (AreLiveBut (application_of l.app) worlds l.labels (drop l.label-index l.labels) l.some.items)
