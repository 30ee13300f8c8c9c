use Rattle.jac_lang.specs.Mirror.{application_of}
use Rattle.jac_dispatch.proofs.ViewerEntryLaws.{fewer_valid, kept_fewer, taken_first, taken_valid}
use Rattle.jac_dispatch.proofs.answer.ready_answer.Goals as goal

pub prepare-requires-clause-valid : goal.prepare-requires-clause-valid
prepare-requires-clause-valid g c = λ told.
    let dispatcher = c.args.dispatcher.now in
    taken_valid (application_of dispatcher.service.now) (g.K.Keeper.seen dispatcher.keeper.now) dispatcher.viewer_caches.now c.args.ask.now.viewer c.take_cache-cache.result
    c.empty_cache_is_valid.ensures c.requires.settled c.take_cache-cache.ensures.taken told

pub returns-clause-settled : goal.returns-clause-settled
returns-clause-settled g c =
    let K = g.K.Keeper in
    let left = c.in_ok-ready.ensures.reads.left in
    fewer_valid (application_of c.args.dispatcher.now.service.now) (K.seen c.args.dispatcher.now.keeper.now) (K.seen c.prepare.new.keeper)
    c.args.dispatcher.now.viewer_caches.now c.take_cache-cache.new.viewer_caches left.told left.same_state c.take_cache-cache.ensures.left c.requires.settled

pub returns-in_err-ready-clause-settled : goal.returns-in_err-ready-clause-settled
returns-in_err-ready-clause-settled g c =
    let K = g.K.Keeper in
    let left = c.in_err-ready.ensures.reads.left in
    fewer_valid (application_of c.args.dispatcher.now.service.now) (K.seen c.args.dispatcher.now.keeper.now) (K.seen c.prepare.new.keeper)
    c.args.dispatcher.now.viewer_caches.now c.take_cache-cache.new.viewer_caches left.told left.same_state c.take_cache-cache.ensures.left c.requires.settled

pub returns-clause-bounded : goal.returns-clause-bounded
returns-clause-bounded g c = record {
  few = λ eager told nothing. c.in_ok-ready.ensures.bounded.few eager told (taken_first c.args.dispatcher.now.viewer_caches.now c.args.ask.now.viewer c.take_cache-cache.result nothing c.take_cache-cache.ensures.taken);
}

pub returns-clause-cached : goal.returns-clause-cached
returns-clause-cached g c =
    kept_fewer c.args.ask.now.viewer c.args.dispatcher.now.viewer_caches.now c.take_cache-cache.new.viewer_caches c.take_cache-cache.ensures.left

pub returns-in_err-ready-clause-cached : goal.returns-in_err-ready-clause-cached
returns-in_err-ready-clause-cached g c =
    kept_fewer c.args.ask.now.viewer c.args.dispatcher.now.viewer_caches.now c.take_cache-cache.new.viewer_caches c.take_cache-cache.ensures.left
