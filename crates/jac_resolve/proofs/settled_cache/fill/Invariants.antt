use Rattle.jac_world.specs.World.{shown_by}
use Rattle.jac_lang.specs.Mirror.{application_of}
use Rattle.jac_keep.specs.WorkState.{state_of}
use Rattle.jac_resolve.specs.RightMemo.{IsUnderway}
use Rattle.jac_resolve.specs.Rounds.{hidden_count}
use Rattle.jac_resolve.specs.ValidCache.{cache_labels}
use Rattle.jac_shown_rows.proofs.Working.{LoopOver}
use Rattle.jac_resolve.proofs.Greedy.{InRounds}
use Rattle.jac_resolve.proofs.settled_cache.fill.Given as goal
use Rattle.jac_plain.specs.Shown.{worlds_of}

abbrev pub invariant-rounds : goal.invariant-rounds
invariant-rounds g l =
    let k = g.K.Keeper in
    InRounds l.tried (cache_labels l.fn.cache.labels) l.labels l.fn.cache.answers l.cache.answers l.fn.evaluations l.evaluations
    (LoopOver k.seen l.fn.work l.work (IsUnderway (application_of l.app) (worlds_of (state_of k.seen l.fn.work)) l.viewer l.labels l.cache.answers))

abbrev pub decreases-rounds : goal.decreases-rounds
decreases-rounds g l = hidden_count (shown_by l.labels) l.tried
