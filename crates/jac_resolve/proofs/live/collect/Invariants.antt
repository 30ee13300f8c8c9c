use Rattle.jac_lang.specs.Mirror.{entities_of}
use Rattle.jac_keep.specs.WorkState.{state_of}
use Rattle.jac_resolve.specs.Collected.{Collects}
use Rattle.jac_shown_rows.proofs.Working.{LoopOver}
use Rattle.jac_resolve.proofs.live.collect.Given as goal

abbrev pub invariant-models : goal.invariant-models
invariant-models g l =
    let k = g.K.Keeper in
    LoopOver k.seen l.fn.work l.work
    (Collects (entities_of l.models) (state_of k.seen l.fn.work).tables l.place l.labels.items)
