-- A dispatcher, which answers requests over a keeper.
use Rattle.std.specs.Prelude.{◌≡◌, IsTrue}
use Rattle.jac_serve_events.specs.AnswerSpec.{AnswerSpec}
use Rattle.jac_serve_events.specs.RunSeen.{RunSeen}
use Rattle.jac_serve_events.specs.Outside.{Span, span}

-- What contracts see of a dispatcher: its identity, and what a run sees of its keeper, its counts
-- and what was settled for viewers.
pub record DispatcherSeen (O : Type 0) : Type 0 where
  pub of : O
  pub run_seen : RunSeen

-- What a run sees of a dispatcher before and after some calls.
abbrev pub kept : {O : Type 0} → DispatcherSeen O → DispatcherSeen O → Span RunSeen
kept before after = span before.run_seen after.run_seen

-- A dispatcher may serve: its store is attached, requests may be answered in its state, and what
-- was settled still holds.
pub record MayServe {O : Type 0} (answer_spec : O → AnswerSpec)
    (dispatcher : DispatcherSeen O) : Type 0 where
  pub attached : IsTrue dispatcher.run_seen.keeper.store.attached
  pub ready : (answer_spec dispatcher.of).ready dispatcher.run_seen
  pub settled : (answer_spec dispatcher.of).settled dispatcher.run_seen.keeper
      dispatcher.run_seen.viewer_caches

-- After a call, a dispatcher has the same identity and store, and may serve again.
pub record KeepsDispatcher {O : Type 0} (answer_spec : O → AnswerSpec)
    (before after : DispatcherSeen O) : Type 0 where
  pub same : after.of ≡ before.of
  pub store : after.run_seen.keeper.store ≡ before.run_seen.keeper.store
  pub ready : (answer_spec before.of).ready after.run_seen
  pub settled : (answer_spec before.of).settled after.run_seen.keeper
      after.run_seen.viewer_caches
