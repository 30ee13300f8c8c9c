-- What serves a dispatcher may rely on.
use Rattle.std.proofs.Common.{◌≡◌, sym, subst, refl, IsTrue}
use Rattle.jac_rows.specs.declared.state.State.{State}
use Rattle.jac_serve_events.specs.AnswerSpec.{IsAnswerSpec}
use Rattle.jac_engine.specs.Start.{IsStart}
use Rattle.jac_serve_events.specs.Dispatcher.{DispatcherSeen, KeepsDispatcher}
use Rattle.jac_dispatch.specs.Answered.{DispatcherOf, AreValidCaches, answer_spec}
use Rattle.jac_dispatch.proofs.EntriesLemmas.{entries-none, entries-one, entries-then}
use Rattle.jac_dispatch.proofs.EntryLemmas.{is_wanting}
use Rattle.jac_hub.specs.Hearing.{broken}

pub lawful : (of : DispatcherOf) → IsAnswerSpec (answer_spec of)
lawful of = record {
  same_method = λ viewer method path query body. refl;
  none = λ k ready. entries-none of.lazy of.app k ready;
  one = λ a b entry is. entries-one of.lazy of.app a b entry is;
  joined = λ a b c xs ys first second. entries-then of.lazy of.app a b c xs ys first second;
  goes_on = λ a b subject answer is. is.goes_on;
  wanting = λ k ready. is_wanting of.lazy of.app k broken refl (λ worlds. refl) (λ w t. refl) ready;
}

-- After an answer that was made, or a failure, a dispatcher may serve again.
module _ (before after : DispatcherSeen DispatcherOf) (same : after.of ≡ before.of) (stays : after.run_seen.keeper.store ≡ before.run_seen.keeper.store)
    (settled : AreValidCaches before.of.app after.run_seen.keeper after.run_seen.viewer_caches) where
  pub keeps-made : (IsTrue after.run_seen.keeper.tells → IsStart before.of.app after.run_seen.keeper.state) → KeepsDispatcher answer_spec before after
  keeps-made start = record { same = same; store = stays; ready = start; settled = settled }

  pub keeps-failed : (IsTrue before.run_seen.keeper.tells → IsStart before.of.app before.run_seen.keeper.state)
      → (IsTrue after.run_seen.keeper.tells → after.run_seen.keeper.state ≡ before.run_seen.keeper.state)
      → (IsTrue after.run_seen.keeper.tells → IsTrue before.run_seen.keeper.tells) → KeepsDispatcher answer_spec before after
  keeps-failed start left told = keeps-made (λ tells. subst (λ (s : State). IsStart before.of.app s) (sym (left tells)) (start (told tells)))
