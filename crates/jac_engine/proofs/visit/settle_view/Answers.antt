use Rattle.jac_keep.specs.WorkState.{state_of}
use Rattle.jac_engine.specs.Visits.{app_of, viewer_at}
use Rattle.jac_engine.proofs.AnswerLaws.{settles_view}
use Rattle.jac_resolve.proofs.Alike.{few_numbered}
use Rattle.jac_engine.proofs.visit.settle_view.Goals as goal

pub returns-clause-settles : goal.returns-clause-settles
returns-clause-settles g c = λ told.
    let K = g.K.Keeper in
    let it = c.in_ok-with_invalidation in
    settles_view (app_of c.args.visited.now) (viewer_at c.args.visited.now) (K.seen c.args.work.now.keeper.now).state (state_of K.seen c.store_view.new.work)
    it.with_invalidation.shown.labels c.store_view.new.cache it.with_invalidation.invalidation c.settled_by_tables.ensures c.valid_by_tables.ensures
    (it.ensures.settled told) (it.ensures.valid told) (it.ensures.affected told)

pub returns-clause-bounded : goal.returns-clause-bounded
returns-clause-bounded g c = λ told.
    let later = state_of g.K.Keeper.seen c.store_view.new.work in
    record { few = λ n none. few_numbered (app_of c.args.visited.now) later n (viewer_at c.args.visited.now) c.args.evaluations.now c.store_view.new.evaluations (c.in_ok-with_invalidation.ensures.bounded told none) }
