use Rattle.jac_keep.specs.WorkState.{state_of}
use Rattle.jac_engine.specs.Visits.{app_of, viewer_at}
use Rattle.jac_engine.proofs.visit.invalidate_cache.Goals as goal
use Rattle.jac_plain.specs.Shown.{worlds_of}

pub returns-clause-valid : goal.returns-clause-valid
returns-clause-valid g c = λ told.
    let K = g.K.Keeper in
    let visited = c.args.visited.now in
    let before = c.in_ok-invalidation.ensures.reads.same.told told in
    c.cache_moves.ensures (app_of visited) (worlds_of (K.seen c.args.work.now.keeper.now).state) (worlds_of (state_of K.seen c.args.work.now))
    (viewer_at visited) c.in_ok-invalidation.invalidation c.args.cache.now c.invalidate.new.self (c.requires.valid before.told) c.in_ok-invalidate.ensures
    (c.in_ok-invalidation.ensures.covered told (viewer_at visited))
