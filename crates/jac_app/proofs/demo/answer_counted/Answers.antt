use Rattle.std.proofs.Common.{◌≡◌, ◌∙◌, ap, sym, subst, IsTrue, Bool, false, refl}
use Rattle.jac_rows.specs.Project.{project_at}
use Rattle.jac_rows.specs.declared.state.State.{State}
use Rattle.jac_lang.specs.Mirror.{application_of}
use Rattle.jac_engine.specs.Prepared.{IsPrepared, applied_if}
use Rattle.jac_hub.specs.Hearing.{asked, whole}
use Rattle.jac_serve_events.specs.Log.{reply_to}
use Rattle.jac_dispatch.specs.Answered.{AreValidCaches, AsksFewAtFirst, DispatcherOf}
use Rattle.jac_dispatch.specs.Seen.{whose}
use Rattle.jac_dispatch.proofs.EntryLemmas.{unapplied}
use Rattle.jac_dispatch.proofs.ViewerEntryLaws.{few_stored, kept_then, prepared_after, still_kept}
use Rattle.jac_app.proofs.demo.answer_counted.Goals as goal

pub returns-clause-counted : goal.returns-clause-counted
returns-clause-counted g c =
    let K = g.K.Keeper in
    let before = c.args.dispatcher.now in
    let ready = c.ready_answer.new.dispatcher in
    let app = application_of c.args.dispatcher.now.service.now in
    let ask = c.args.ask.now in
    let s = (K.seen c.args.dispatcher.now.keeper.now).state in
    let later = (K.seen c.store_answer.new.dispatcher.keeper.now).state in
    let tells = (K.seen c.ready_answer.new.dispatcher.keeper.now).tells in
    let p = c.in_ok-ready.ready.prepared in
    let prepared : IsPrepared false tells app s ask p =
    subst (λ (lazy : Bool). IsPrepared lazy tells app s ask p) c.requires.eager c.in_ok-ready.ensures.prepared in
    let left = c.in_ok-ready.ensures.reads.left in
    let stored : IsTrue (K.seen c.store_answer.new.dispatcher.keeper.now).tells → later ≡ applied_if p.change s =
    λ told. rw (left.same_state (c.in_ok-store_answer.ensures.told told)) at (c.in_ok-store_answer.ensures.applied told) in
    record {
      reply = reply_to asked (whole ask false) p.answer;
      made = record {
        answer = p.answer;
        form = prepared.form;
        answered = λ told. prepared.answered (c.in_ok-store_answer.ensures.told told);
        worlds = λ told w. ap (λ (x : State). project_at w x) (stored told) ∙ prepared.worlds (c.in_ok-store_answer.ensures.told told) w;
        goes_on = λ told. rw (stored told) (prepared.start (c.in_ok-store_answer.ensures.told told));
        good = λ told good. rw (stored told) (prepared.good (c.in_ok-store_answer.ensures.told told) good);
        unstored = λ told none. stored told ∙ unapplied p.change s (prepared.stored ∙ none);
        unsplit = λ none. c.in_ok-store_answer.ensures.unsplit ∙ c.in_ok-ready.ensures.unsplit (prepared.stored ∙ none);
        bounded =
            subst (λ (lazy : Bool). AsksFewAtFirst lazy (K.seen c.store_answer.new.dispatcher.keeper.now).tells app later ask.viewer before.viewer_caches.now before.evaluations.now c.store_answer.new.dispatcher.evaluations.now)
            c.requires.eager
            (few_stored before.lazy tells _ app (applied_if p.change s) later ask.viewer before.viewer_caches.now before.evaluations.now ready.evaluations.now c.store_answer.new.dispatcher.evaluations.now
            c.in_ok-store_answer.ensures.told stored c.in_ok-store_answer.ensures.unasked c.in_ok-ready.ensures.bounded);
        kept =
            kept_then ask.viewer before.viewer_caches.now ready.viewer_caches.now c.store_answer.new.dispatcher.viewer_caches.now
            c.in_ok-ready.ensures.cached c.in_ok-store_answer.ensures.cached;
        reply_made = refl;
        audit_made = c.in_ok-counted.ensures.audit;
      };
      tally_is = c.in_ok-counted.ensures.tally;
    }

pub store_answer-requires-clause-prepared : goal.store_answer-requires-clause-prepared
store_answer-requires-clause-prepared g c =
    let K = g.K.Keeper in
    let left = c.in_ok-ready.ensures.reads.left in
    let new = K.seen c.ready_answer.new.dispatcher.keeper.now in
    subst (λ (of : DispatcherOf). IsPrepared of.lazy new.tells of.app new.state c.args.ask.now c.in_ok-ready.ready.prepared) (sym c.in_ok-ready.ensures.same)
    (prepared_after c.args.dispatcher.now.lazy new (K.seen c.args.dispatcher.now.keeper.now) (application_of c.args.dispatcher.now.service.now)
    c.args.ask.now c.in_ok-ready.ready.prepared new.tells (λ told. told) left.same_state c.in_ok-ready.ensures.prepared)

pub store_answer-requires-clause-keeps : goal.store_answer-requires-clause-keeps
store_answer-requires-clause-keeps g c =
    let K = g.K.Keeper in
    let before = c.args.dispatcher.now in
    let after = c.ready_answer.new.dispatcher in
    still_kept (whose before) (whose after) (K.seen before.keeper.now) (K.seen after.keeper.now) c.args.ask.now.viewer c.in_ok-ready.ready
    c.in_ok-ready.ensures.same c.in_ok-ready.ensures.reads.left.same_state c.in_ok-ready.ensures.keeps

pub store_answer-requires-clause-settled : goal.store_answer-requires-clause-settled
store_answer-requires-clause-settled g c =
    let new = g.K.Keeper.seen c.ready_answer.new.dispatcher.keeper.now in
    subst (λ (of : DispatcherOf). AreValidCaches of.app new c.ready_answer.new.dispatcher.viewer_caches.now) (sym c.in_ok-ready.ensures.same) c.in_ok-ready.ensures.settled

pub returns-clause-cached : goal.returns-clause-cached
returns-clause-cached g c =
    kept_then c.args.ask.now.viewer c.args.dispatcher.now.viewer_caches.now c.ready_answer.new.dispatcher.viewer_caches.now c.store_answer.new.dispatcher.viewer_caches.now
    c.in_ok-ready.ensures.cached c.in_ok-store_answer.ensures.cached

pub returns-in_err-store_answer-clause-cached : goal.returns-in_err-store_answer-clause-cached
returns-in_err-store_answer-clause-cached g c =
    kept_then c.args.ask.now.viewer c.args.dispatcher.now.viewer_caches.now c.ready_answer.new.dispatcher.viewer_caches.now c.store_answer.new.dispatcher.viewer_caches.now
    c.in_ok-ready.ensures.cached c.in_err-store_answer.ensures.cached
