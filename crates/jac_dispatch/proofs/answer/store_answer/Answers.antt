use Rattle.jac_lang.specs.Mirror.{application_of}
use Rattle.jac_dispatch.proofs.ViewerEntryLaws.{kept_refused, kept_stored, refused_valid, stored_valid}
use Rattle.jac_dispatch.proofs.answer.store_answer.Goals as goal

pub returns-in-Ok-clause-settled : goal.returns-in-Ok-clause-settled
returns-in-Ok-clause-settled g c =
    let K = g.K.Keeper in
    let dispatcher = c.args.dispatcher.now in
    let ready = c.args.ready in
    stored_valid c.cache_moves.ensures c.covered_by_nothing.ensures (application_of dispatcher.service.now) (K.seen dispatcher.keeper.now) (K.seen c.commit.new.keeper) ready.prepared.change ready.invalidation
    dispatcher.viewer_caches.now c.invalidate_by.new.viewer_caches c.in-Ok.ensures.told c.requires.keeps.affected c.invalidate_by.ensures c.requires.settled
    c.args.ask.now.viewer ready.cache c.put.new.self c.in-Ok.ensures.applied c.requires.keeps.valid c.put.ensures

pub returns-in-Err-clause-settled : goal.returns-in-Err-clause-settled
returns-in-Err-clause-settled g c =
    let K = g.K.Keeper in
    let dispatcher = c.args.dispatcher.now in
    let ready = c.args.ready in
    refused_valid c.cache_moves.ensures c.covered_by_nothing.ensures (application_of dispatcher.service.now) (K.seen dispatcher.keeper.now) (K.seen c.commit.new.keeper) ready.prepared.change ready.invalidation
    dispatcher.viewer_caches.now c.invalidate_by.new.viewer_caches c.in-Err.ensures.told c.requires.keeps.affected c.invalidate_by.ensures c.requires.settled c.in-Err.ensures.refused

pub returns-in-Ok-clause-cached : goal.returns-in-Ok-clause-cached
returns-in-Ok-clause-cached g c =
    let ready = c.args.ready in
    kept_stored c.args.ask.now.viewer ready.invalidation c.args.dispatcher.now.viewer_caches.now c.invalidate_by.new.viewer_caches c.invalidate_by.ensures
    ready.cache c.put.new.self c.put.ensures

pub returns-in-Err-clause-cached : goal.returns-in-Err-clause-cached
returns-in-Err-clause-cached g c =
    kept_refused c.args.ask.now.viewer c.args.ready.invalidation c.args.dispatcher.now.viewer_caches.now c.invalidate_by.new.viewer_caches c.invalidate_by.ensures
