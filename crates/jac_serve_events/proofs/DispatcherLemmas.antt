-- A dispatcher over two calls in a row.
use Rattle.std.proofs.Common.{◌≡◌, ◌∙◌, sym, subst, refl, ℕ, IsTrue, Option, Result, List}
use Rattle.jac_events.specs.declared.event.Event.{Event}
use Rattle.jac_keep.specs.KeeperSeen.{Store}
use Rattle.jac_http.specs.Requests.{IsTaken}
use Rattle.jac_hub.specs.declared.hub.HubOut.{HubOut}
use Rattle.jac_hub.specs.Hub.{HubSeen, Nexts}
use Rattle.jac_replies.specs.declared.reply.Spelling.{Spelling}
use Rattle.jac_serve_events.specs.AnswerSpec.{AnswerSpec}
use Rattle.jac_serve_events.specs.Dispatcher.{DispatcherSeen, MayServe, KeepsDispatcher}
use Rattle.jac_serve_events.specs.declared.serve.ReplayError.{ReplayError}
use Rattle.jac_serve_events.specs.RunSeen.{RunSeen}
use Rattle.jac_serve_events.specs.Outside.{Span, Sinks}
use Rattle.jac_serve_events.specs.Serve.{Handles, AnswersLine}

module _ {O : Type 0} (answer_spec : O → AnswerSpec) where
  pub keeps-none : (a : DispatcherSeen O) → MayServe answer_spec a → KeepsDispatcher answer_spec a a
  keeps-none a may = record { same = refl; store = refl; ready = may.ready; settled = may.settled }

  pub keeps-may : (a b : DispatcherSeen O) → MayServe answer_spec a → KeepsDispatcher answer_spec a b → MayServe answer_spec b
  keeps-may a b may keeps = record {
    attached = subst (λ (s : Store). IsTrue s.attached) (sym keeps.store) may.attached;
    ready = subst (λ (o : O). (answer_spec o).ready b.run_seen) (sym keeps.same) keeps.ready;
    settled = subst (λ (o : O). (answer_spec o).settled b.run_seen.keeper b.run_seen.viewer_caches) (sym keeps.same) keeps.settled;
  }

  pub keeps-then : (a b c : DispatcherSeen O) → KeepsDispatcher answer_spec a b → KeepsDispatcher answer_spec b c → KeepsDispatcher answer_spec a c
  keeps-then a b c one two = record {
    same = two.same ∙ one.same;
    store = two.store ∙ one.store;
    ready = subst (λ (o : O). (answer_spec o).ready c.run_seen) one.same two.ready;
    settled = subst (λ (o : O). (answer_spec o).settled c.run_seen.keeper c.run_seen.viewer_caches) one.same two.settled;
  }

  -- What holds for the dispatcher's `of` after a call holds for that before it.
  pub keeps-of : (a b : DispatcherSeen O) (P : AnswerSpec → Type 0) → KeepsDispatcher answer_spec a b → P (answer_spec b.of) → P (answer_spec a.of)
  keeps-of a b P keeps h = subst (λ (o : O). P (answer_spec o)) keeps.same h

  -- What holds for it before a call holds after it.
  pub of-keeps : (a b : DispatcherSeen O) (P : AnswerSpec → Type 0) → KeepsDispatcher answer_spec a b → P (answer_spec a.of) → P (answer_spec b.of)
  of-keeps a b P keeps h = subst (λ (o : O). P (answer_spec o)) (sym keeps.same) h

  -- What the dispatcher gave in the spelling that was asked for.
  pub next-of : (a b : DispatcherSeen O) (told spelling : Spelling) (hub new : HubSeen) (result : Option HubOut) (before after : RunSeen) → KeepsDispatcher answer_spec a b → told ≡ spelling
      → Nexts IsTaken (Handles told (answer_spec b.of)) hub hub.turn result new before after → Nexts IsTaken (Handles spelling (answer_spec a.of)) hub hub.turn result new before after
  next-of a b told spelling hub new result before after keeps same h =
      keeps-of a b (λ (x : AnswerSpec). Nexts IsTaken (Handles spelling x) hub hub.turn result new before after) keeps
      (subst (λ (s : Spelling). Nexts IsTaken (Handles s (answer_spec b.of)) hub hub.turn result new before after) same h)

  pub line-of : (a b : DispatcherSeen O) (hub new : HubSeen) (k : Span RunSeen) (served line : ℕ) (written : Option (Option Event)) (result : Result ℕ ReplayError) (s : Sinks) (out audit : List ℕ) → KeepsDispatcher answer_spec a b
      → AnswersLine (answer_spec b.of) hub new k served line written result s out audit → AnswersLine (answer_spec a.of) hub new k served line written result s out audit
  line-of a b hub new k served line written result s out audit keeps h =
      keeps-of a b (λ (x : AnswerSpec). AnswersLine x hub new k served line written result s out audit) keeps h
