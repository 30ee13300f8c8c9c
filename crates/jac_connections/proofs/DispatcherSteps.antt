-- A step of a dispatcher after a call, as a step of the dispatcher before it.
use Rattle.std.proofs.Common.{◌≡◌, subst, ℕ, Option, Result, List}
use Rattle.jac_hub.specs.Hub.{HubSeen}
use Rattle.jac_io.specs.Linked.{LinkSeen, DoorSeen}
use Rattle.jac_serve_events.specs.RunSeen.{RunSeen}
use Rattle.jac_serve_events.specs.AnswerSpec.{AnswerSpec}
use Rattle.jac_serve_events.specs.Dispatcher.{DispatcherSeen, KeepsDispatcher}
use Rattle.jac_serve_events.specs.Outside.{Span, span}
use Rattle.jac_serve_events.proofs.DispatcherLemmas.{keeps-of}
use Rattle.jac_connections.specs.declared.door.DoorHalt.{DoorHalt}
use Rattle.jac_connections.specs.declared.door.Tally.{Tally}
use Rattle.jac_connections.specs.declared.link.Halt.{Halt}
use Rattle.jac_connections.specs.declared.link.Standing.{Standing}
use Rattle.jac_connections.specs.DoorSteps.{ServesNext}
use Rattle.jac_connections.specs.Link.{IsLinkServed}
use Rattle.jac_connections.specs.LinkSteps.{ServesPiece}

module _ {O : Type 0} (answer_spec : O → AnswerSpec) (a b : DispatcherSeen O) (keeps : KeepsDispatcher answer_spec a b) where
  pub piece-of : (c : ℕ) (hub new : HubSeen) (link : Span LinkSeen) (k : Span RunSeen) (served : ℕ) (result : Result Standing Halt) (out audit : List ℕ)
      → ServesPiece (answer_spec b.of) c hub new link k served result out audit → ServesPiece (answer_spec a.of) c hub new link k served result out audit
  piece-of c hub new link k served result out audit h =
      keeps-of answer_spec a b (λ (app : AnswerSpec). ServesPiece app c hub new link k served result out audit) keeps h

  pub next_link-of : {L : Type 0} (seen : L → LinkSeen) (tally : Tally) (door : Span (DoorSeen L)) (k : Span RunSeen) (result : Result (Option Tally) DoorHalt) (audit : List ℕ)
      → ServesNext seen (answer_spec b.of) tally door k result audit → ServesNext seen (answer_spec a.of) tally door k result audit
  next_link-of seen tally door k result audit h =
      keeps-of answer_spec a b (λ (app : AnswerSpec). ServesNext seen app tally door k result audit) keeps h

-- A link that was served by a dispatcher that hadn't been asked anything.
pub link-of : {O : Type 0} (answer_spec : O → AnswerSpec) (a b : DispatcherSeen O) → KeepsDispatcher answer_spec a b → b.run_seen ≡ a.run_seen
    → (c first : ℕ) (link : Span LinkSeen) (after : RunSeen) (result : Result ℕ Halt) (out audit : List ℕ)
    → IsLinkServed (answer_spec b.of) c first link (span b.run_seen after) result out audit → IsLinkServed (answer_spec a.of) c first link (span a.run_seen after) result out audit
link-of answer_spec a b keeps still c first link after result out audit h =
    subst (λ (k : RunSeen). IsLinkServed (answer_spec a.of) c first link (span k after) result out audit) still
    (keeps-of answer_spec a b (λ (app : AnswerSpec). IsLinkServed app c first link (span b.run_seen after) result out audit) keeps h)
