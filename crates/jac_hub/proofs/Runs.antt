-- A run of a hub, and the log that its events bring.
use Rattle.std.proofs.Common.{◌≡◌, ◌∙◌, ap, refl, ℕ, ◌+◌, List, [], ◌∷◌, ◌++◌}
use Rattle.jac_events.specs.declared.event.Event.{Event}
use Rattle.jac_http.specs.Reading.{IsReading}
use Rattle.jac_hub.specs.declared.handler.Heard.{Heard}
use Rattle.jac_hub.specs.declared.sent.Sent.{Sent}
use Rattle.jac_hub.specs.declared.hub.HubOut.{HubOut}
use Rattle.jac_hub.specs.declared.hub.Turn.TheVariants.{Idle}
use Rattle.jac_hub.specs.Hearing.{broken, Entry, Hearing}
use Rattle.jac_hub.specs.Heard.{Connections, after_both, IsHeardFrom}
use Rattle.jac_hub.specs.Hub.{HubSeen}
use Rattle.jac_hub.specs.Served.{AreLike, RunsHub, AreServed}
use Rattle.jac_hub.proofs.Following.{Tells}
use Rattle.jac_hub.proofs.Events.{event-served}

-- A log that a run brings, with what was put out for it.
pub record HasLog {I A H : Type 0} (h : Hearing I A) (told : H → ℕ → Heard → Sent → H → A → Type 0) (memory : A) (known : Connections I) (n : ℕ)
    (events : List Event) (outs : List HubOut) (before after : H) : Type 0 where
  pub log : List (Entry I A)
  pub served : AreServed h told memory known n events log outs before after

pub run-served : {I A H : Type 0} (h : Hearing I A) → IsReading h.reads → (handles : H → ℕ → Heard → Sent → H → Type 0)
    (told : H → ℕ → Heard → Sent → H → A → Type 0) (memory : A) → Tells h handles told
    → (events : List Event) (n : ℕ) (known : Connections I) (hub new : HubSeen) (outs : List HubOut) (before after : H)
    → hub.turn ≡ Idle → AreLike h hub.channels known → RunsHub h.reads handles hub events outs new before after
    → HasLog h told memory known n events outs before after
run-served h law handles told memory tells [] n known hub new outs before after idle like (nothing, same, kept) =
    record { log = []; served = (refl, nothing, kept) }
run-served h law handles told memory tells (event ∷ events) n known hub new outs before after idle like
    (result, stepped, later, mine, rest, between, steps, kept, emptied, split, more) =
    let first = event-served h law handles told memory n tells event known result hub stepped later mine before between idle like steps kept emptied in
    let others = run-served h law handles told memory tells events (n + 1) (after_both h event first.mine known) later new rest between after first.idle first.like more in
    record {
      log = first.mine ++ others.log;
      served = (
        first.mine,
        others.log,
        first.replies,
        rest,
        between,
        refl,
        split ∙ ap (λ (l : List HubOut). l ++ rest) first.put,
        first.brought,
        first.answered,
        others.served,
      );
    }

-- A log that was served is one that the events bring.
pub served-heard : {I A H : Type 0} (h : Hearing I A) (told : H → ℕ → Heard → Sent → H → A → Type 0) (memory : A)
    (events : List Event) (n : ℕ) (known : Connections I) (log : List (Entry I A)) (outs : List HubOut) (before after : H)
    → AreServed h told memory known n events log outs before after → IsHeardFrom h known n events log
served-heard h told memory [] n known log outs before after served = served.0
served-heard h told memory (event ∷ events) n known log outs before after (mine, others, replies, rest, between, split, put, brought, answered, more) =
    (mine, others, split, brought, served-heard h told memory events (n + 1) (after_both h event mine known) others rest between after more)
