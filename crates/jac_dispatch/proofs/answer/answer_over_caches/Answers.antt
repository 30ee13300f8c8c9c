use Rattle.std.proofs.Common.{◌≡◌, ◌∙◌, ap, sym, subst, ℕ, IsTrue}
use Rattle.jac_rows.specs.Project.{project_at}
use Rattle.jac_rows.specs.declared.state.State.{State}
use Rattle.jac_lang.specs.Mirror.{application_of}
use Rattle.jac_engine.specs.Answers.{HasForm}
use Rattle.jac_engine.specs.Prepared.{IsPrepared, applied_if}
use Rattle.jac_resolve.specs.Rounds.{AreFewEvaluations}
use Rattle.jac_dispatch.specs.Answered.{AreValidCaches, DispatcherOf}
use Rattle.jac_dispatch.specs.Seen.{whose}
use Rattle.jac_dispatch.proofs.EntryLemmas.{servable, unapplied}
use Rattle.jac_dispatch.proofs.ViewerEntryLaws.{few_stored, kept_then, prepared_after, still_kept}
use Rattle.jac_dispatch.proofs.answer.answer_over_caches.Goals as goal

pub make_lines-requires-clause-status : goal.make_lines-requires-clause-status
make_lines-requires-clause-status g c =
    let app = application_of c.args.dispatcher.now.service.now in
    let lazy = c.args.dispatcher.now.lazy in
    let form : HasForm lazy app c.args.ask.now c.in_ok-ready.ready.prepared.answer = c.in_ok-ready.ensures.prepared.form in
    (servable lazy app c.args.ask.now c.in_ok-ready.ready.prepared.answer form).phrase

pub make_lines-requires-clause-answered : goal.make_lines-requires-clause-answered
make_lines-requires-clause-answered g c =
    let app = application_of c.args.dispatcher.now.service.now in
    let lazy = c.args.dispatcher.now.lazy in
    let form : HasForm lazy app c.args.ask.now c.in_ok-ready.ready.prepared.answer = c.in_ok-ready.ensures.prepared.form in
    (servable lazy app c.args.ask.now c.in_ok-ready.ready.prepared.answer form).answered

pub returns-clause-made : goal.returns-clause-made
returns-clause-made g c =
    let K = g.K.Keeper in
    let before = c.args.dispatcher.now in
    let ready = c.ready_answer.new.dispatcher in
    let app = application_of c.args.dispatcher.now.service.now in
    let lazy = c.args.dispatcher.now.lazy in
    let ask = c.args.ask.now in
    let s = (K.seen c.args.dispatcher.now.keeper.now).state in
    let later = (K.seen c.store_answer.new.dispatcher.keeper.now).state in
    let tells = (K.seen c.ready_answer.new.dispatcher.keeper.now).tells in
    let p = c.in_ok-ready.ready.prepared in
    let prepared : IsPrepared lazy tells app s ask p = c.in_ok-ready.ensures.prepared in
    let left = c.in_ok-ready.ensures.reads.left in
    let stored : IsTrue (K.seen c.store_answer.new.dispatcher.keeper.now).tells → later ≡ applied_if p.change s =
    λ told. rw (left.same_state (c.in_ok-store_answer.ensures.told told)) at (c.in_ok-store_answer.ensures.applied told) in
    record {
      answer = p.answer;
      form = prepared.form;
      answered = λ told. prepared.answered (c.in_ok-store_answer.ensures.told told);
      worlds = λ told w. ap (λ (x : State). project_at w x) (stored told) ∙ prepared.worlds (c.in_ok-store_answer.ensures.told told) w;
      goes_on = λ told. rw (stored told) (prepared.start (c.in_ok-store_answer.ensures.told told));
      good = λ told good. rw (stored told) (prepared.good (c.in_ok-store_answer.ensures.told told) good);
      unstored = λ told none. stored told ∙ unapplied p.change s (prepared.stored ∙ none);
      unsplit = λ none. c.in_ok-store_answer.ensures.unsplit ∙ c.in_ok-ready.ensures.unsplit (prepared.stored ∙ none);
      bounded =
          few_stored lazy tells _ app (applied_if p.change s) later ask.viewer before.viewer_caches.now before.evaluations.now ready.evaluations.now c.store_answer.new.dispatcher.evaluations.now
          c.in_ok-store_answer.ensures.told stored c.in_ok-store_answer.ensures.unasked c.in_ok-ready.ensures.bounded;
      kept =
          kept_then ask.viewer before.viewer_caches.now ready.viewer_caches.now c.store_answer.new.dispatcher.viewer_caches.now
          c.in_ok-ready.ensures.cached c.in_ok-store_answer.ensures.cached;
      reply_made = c.in_ok-lines.ensures.reply;
      audit_made = c.in_ok-lines.ensures.audit;
    }

pub store_answer-requires-clause-prepared : goal.store_answer-requires-clause-prepared
store_answer-requires-clause-prepared g c =
    let K = g.K.Keeper in
    let left = c.in_ok-ready.ensures.reads.left in
    let new = K.seen c.ready_answer.new.dispatcher.keeper.now in
    subst (λ (of : DispatcherOf). IsPrepared of.lazy new.tells of.app new.state c.args.ask.now c.in_ok-ready.ready.prepared) (sym c.in_ok-ready.ensures.same)
    (prepared_after c.args.dispatcher.now.lazy new (K.seen c.args.dispatcher.now.keeper.now) (application_of c.args.dispatcher.now.service.now)
    c.args.ask.now c.in_ok-ready.ready.prepared new.tells (λ told. told) left.same_state c.in_ok-ready.ensures.prepared)

pub store_answer-requires-clause-keeps : goal.store_answer-requires-clause-keeps
store_answer-requires-clause-keeps g c =
    let K = g.K.Keeper in
    let before = c.args.dispatcher.now in
    let after = c.ready_answer.new.dispatcher in
    still_kept (whose before) (whose after) (K.seen before.keeper.now) (K.seen after.keeper.now) c.args.ask.now.viewer c.in_ok-ready.ready
    c.in_ok-ready.ensures.same c.in_ok-ready.ensures.reads.left.same_state c.in_ok-ready.ensures.keeps

pub store_answer-requires-clause-settled : goal.store_answer-requires-clause-settled
store_answer-requires-clause-settled g c =
    let new = g.K.Keeper.seen c.ready_answer.new.dispatcher.keeper.now in
    subst (λ (of : DispatcherOf). AreValidCaches of.app new c.ready_answer.new.dispatcher.viewer_caches.now) (sym c.in_ok-ready.ensures.same) c.in_ok-ready.ensures.settled

pub returns-clause-bounded : goal.returns-clause-bounded
returns-clause-bounded g c =
    let K = g.K.Keeper in
    let before = c.args.dispatcher.now in
    let ready = c.ready_answer.new.dispatcher in
    let app = application_of before.service.now in
    let viewer = c.args.ask.now.viewer in
    let s = (K.seen before.keeper.now).state in
    let later = (K.seen c.store_answer.new.dispatcher.keeper.now).state in
    let p = c.in_ok-ready.ready.prepared in
    let left = c.in_ok-ready.ensures.reads.left in
    let stored : IsTrue (K.seen c.store_answer.new.dispatcher.keeper.now).tells → later ≡ applied_if p.change s =
    λ told. rw (left.same_state (c.in_ok-store_answer.ensures.told told)) at (c.in_ok-store_answer.ensures.applied told) in
    record {
      few = λ eager told nothing.
          subst (λ (n : ℕ). AreFewEvaluations app later viewer before.evaluations.now n) (sym c.in_ok-store_answer.ensures.unasked)
          (subst (λ (x : State). AreFewEvaluations app x viewer before.evaluations.now ready.evaluations.now) (sym (stored told))
          (c.in_ok-ready.ensures.bounded.few eager (c.in_ok-store_answer.ensures.told told) nothing));
    }

pub returns-clause-cached : goal.returns-clause-cached
returns-clause-cached g c =
    kept_then c.args.ask.now.viewer c.args.dispatcher.now.viewer_caches.now c.ready_answer.new.dispatcher.viewer_caches.now c.store_answer.new.dispatcher.viewer_caches.now
    c.in_ok-ready.ensures.cached c.in_ok-store_answer.ensures.cached

pub returns-in_err-store_answer-clause-cached : goal.returns-in_err-store_answer-clause-cached
returns-in_err-store_answer-clause-cached g c =
    kept_then c.args.ask.now.viewer c.args.dispatcher.now.viewer_caches.now c.ready_answer.new.dispatcher.viewer_caches.now c.store_answer.new.dispatcher.viewer_caches.now
    c.in_ok-ready.ensures.cached c.in_err-store_answer.ensures.cached
