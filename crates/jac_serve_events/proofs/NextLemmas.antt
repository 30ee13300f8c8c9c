-- The calls of a hub, one after another.
use Rattle.std.proofs.Common.{◌≡◌, ◌∙◌, ap, sym, refl, inl, inr, ℕ, ◌+◌, ◌≤◌, ◌||◌, Bool, true, false, Option, Some, None, Ok, Err, List, [], ◌∷◌, ◌++◌, append-nil, arith}
use Rattle.jac_serve_events.specs.RunSeen.{RunSeen}
use Rattle.jac_http.specs.declared.taken.Taken.{Taken}
use Rattle.jac_http.specs.declared.taken.Taken.TheVariants.{More, Whole, Refused}
use Rattle.jac_http.specs.Requests.{IsTaken}
use Rattle.jac_hub.specs.declared.channel.Given.{Given}
use Rattle.jac_hub.specs.declared.handler.Heard.{Heard}
use Rattle.jac_hub.specs.declared.handler.Heard.TheVariants.{Whole as HeardWhole, Refused as HeardRefused}
use Rattle.jac_hub.specs.declared.hub.HubOut.{HubOut}
use Rattle.jac_hub.specs.declared.hub.HubOut.TheVariants.{Reply, Closed}
use Rattle.jac_hub.specs.declared.hub.Turn.{Turn}
use Rattle.jac_hub.specs.declared.hub.Turn.TheVariants as turns
use Rattle.jac_hub.specs.declared.sent.Sent.{Sent}
use Rattle.jac_hub.specs.Channel.{ChannelSeen, AnswersFront, NextOfChannel}
use Rattle.jac_hub.specs.Hub.{HubSeen, Nexts, NextServing}
use Rattle.jac_hub.proofs.Giving.{given-push, given-all}
use Rattle.jac_replies.specs.declared.reply.Spelling.{Spelling}
use Rattle.jac_serve_events.specs.declared.outputs.EventOutcome.{EventOutcome}
use Rattle.jac_serve_events.specs.declared.outputs.FailedSink.{FailedSink}
use Rattle.jac_serve_events.specs.AnswerSpec.{AnswerSpec}
use Rattle.jac_serve_events.specs.Outside.{span, Sinks, PutBoth}
use Rattle.jac_serve_events.specs.Serve.{Handles, sent_on, sent_audit, closed_on, out_on, outs_on, outs_audited, replies_in, is_closed_out, has_closed, IsOutLost, PutsOut, PutsSoFar, PutsSome, PutsAll}
use Rattle.jac_serve_events.proofs.HubLemmas.{outs_on-append, outs_audited-append, replies_in-append, has_closed-append}
use Rattle.jac_serve_events.proofs.OutsideLemmas.{FailsWithin, faulted_within}

-- A call of a hub calls its handler at most once.
module _ {H : Type 0} (reads : List ℕ → Taken → Type 0) (before after : H) (handles : H → ℕ → Heard → Sent → H → Type 0) where
  front_either : (P : Type 0) → (after ≡ before → P) → ((c : ℕ) (heard : Heard) (sent : Sent) → handles before c heard sent after → P)
      → (c : ℕ) (channel : ChannelSeen) (taken : Taken) (result : Option Given) (new : ChannelSeen) → AnswersFront handles c channel taken result new before after → P
  front_either P none one c channel More result new h = none h.0
  front_either P none one c channel (Whole request used) result new h = one c (HeardWhole request) h.0 h.1
  front_either P none one c channel (Refused status) result new h = one c (HeardRefused status) h.0 h.1

  channel_either : (P : Type 0) → (after ≡ before → P) → ((c : ℕ) (heard : Heard) (sent : Sent) → handles before c heard sent after → P)
      → (c : ℕ) (channel : ChannelSeen) (result : Option Given) (new : ChannelSeen) → NextOfChannel reads handles c channel result new before after → P
  channel_either P none one c channel result new (inl fails) = none fails.0
  channel_either P none one c channel result new (inr front) = front_either P none one c channel front.0 result new front.2

  serving_either : (P : Type 0) → (after ≡ before → P) → ((c : ℕ) (heard : Heard) (sent : Sent) → handles before c heard sent after → P)
      → (hub : HubSeen) (c : ℕ) (o : Option ChannelSeen) (result : Option HubOut) (new : HubSeen) → NextServing reads handles hub c o result new before after → P
  serving_either P none one hub c None result new h = none h.0
  serving_either P none one hub c (Some channel) result new h = channel_either P none one c channel h.0 h.1 h.2

  pub next-either : (P : Type 0) → (after ≡ before → P) → ((c : ℕ) (heard : Heard) (sent : Sent) → handles before c heard sent after → P)
      → (hub : HubSeen) (turn : Turn) (result : Option HubOut) (new : HubSeen) → Nexts reads handles hub turn result new before after → P
  next-either P none one hub turns.Idle result new h = none h.0
  next-either P none one hub (turns.Serving c) result new h = serving_either P none one hub c (hub.channels c) result new h
  next-either P none one hub (turns.Breaking c) result new h = none h.0
  next-either P none one hub (turns.Closing c) result new h = none h.0
  next-either P none one hub turns.Done result new h = none h.0

-- What holds for a handler holds for what is seen of it.
module _ {H G : Type 0} (reads : List ℕ → Taken → Type 0) (before after : H) (f : H → G) (handles : H → ℕ → Heard → Sent → H → Type 0) (told : G → ℕ → Heard → Sent → G → Type 0)
    (same : (c : ℕ) (heard : Heard) (sent : Sent) → handles before c heard sent after → told (f before) c heard sent (f after)) where
  front_seen : (c : ℕ) (channel : ChannelSeen) (taken : Taken) (result : Option Given) (new : ChannelSeen)
      → AnswersFront handles c channel taken result new before after → AnswersFront told c channel taken result new (f before) (f after)
  front_seen c channel More result new h = (ap f h.0, h.1)
  front_seen c channel (Whole request used) result new h = (h.0, same c (HeardWhole request) h.0 h.1, h.2, h.3)
  front_seen c channel (Refused status) result new h = (h.0, same c (HeardRefused status) h.0 h.1, h.2, h.3)

  channel_seen : (c : ℕ) (channel : ChannelSeen) (result : Option Given) (new : ChannelSeen)
      → NextOfChannel reads handles c channel result new before after → NextOfChannel reads told c channel result new (f before) (f after)
  channel_seen c channel result new (inl fails) = inl (ap f fails.0, fails.1, fails.2)
  channel_seen c channel result new (inr front) = inr (front.0, front.1, front_seen c channel front.0 result new front.2)

  serving_seen : (hub : HubSeen) (c : ℕ) (o : Option ChannelSeen) (result : Option HubOut) (new : HubSeen)
      → NextServing reads handles hub c o result new before after → NextServing reads told hub c o result new (f before) (f after)
  serving_seen hub c None result new h = (ap f h.0, h.1, h.2)
  serving_seen hub c (Some channel) result new h = (h.0, h.1, channel_seen c channel h.0 h.1 h.2, h.3, h.4)

  pub next-seen : (hub : HubSeen) (turn : Turn) (result : Option HubOut) (new : HubSeen)
      → Nexts reads handles hub turn result new before after → Nexts reads told hub turn result new (f before) (f after)
  next-seen hub turns.Idle result new h = (ap f h.0, h.1, h.2)
  next-seen hub (turns.Serving c) result new h = serving_seen hub c (hub.channels c) result new h
  next-seen hub (turns.Breaking c) result new h = (ap f h.0, h.1)
  next-seen hub (turns.Closing c) result new h = (ap f h.0, h.1, h.2)
  next-seen hub turns.Done result new h = (ap f h.0, h.1, h.2)

pub so_far_none : (spelling : Spelling) (x : AnswerSpec) (hub : HubSeen) (k : RunSeen) (served : ℕ)
    → PutsSoFar spelling x hub hub (span k k) served (record { count = served; closed = false }) [] []
so_far_none spelling x hub k served = record {
  outs = [];
  given = (refl, refl);
  put = record { count_is = omega arith; closed_is = refl; out_text = refl; audit_text = refl };
}

pub few_replies : (given : HubOut) → replies_in (given ∷ []) ≤ 1
few_replies (Reply c sent) = omega arith
few_replies (Closed c) = omega arith

audited_next : (served count : ℕ) (outs : List HubOut) (given : HubOut) → count ≡ served + replies_in outs
    → outs_audited (served + 1) outs ++ outs_audited (count + 1) (given ∷ []) ≡ outs_audited (served + 1) (outs ++ given ∷ [])
audited_next served count outs given count_is =
    ap (λ (n : ℕ). outs_audited (served + 1) outs ++ outs_audited n (given ∷ [])) (omega (arith, count_is))
    ∙ sym (outs_audited-append (served + 1) outs (given ∷ []))

count_next : (served count more : ℕ) (outs : List HubOut) (given : HubOut) → count ≡ served + replies_in outs → more ≡ count + replies_in (given ∷ []) → more ≡ served + replies_in (outs ++ given ∷ [])
count_next served count more outs given before is = let r = replies_in-append outs (given ∷ []) in omega (arith, r, before, is)

or_false : (b : Bool) → b ≡ (b || false)
or_false true = refl
or_false false = refl

or_true : (b : Bool) → true ≡ (b || true)
or_true true = refl
or_true false = refl

closed_next : (outs : List HubOut) (given : HubOut) (old new : Bool) → old ≡ has_closed outs → new ≡ (old || is_closed_out given) → new ≡ has_closed (outs ++ given ∷ [])
closed_next outs given old new before is =
    is ∙ ap (λ (b : Bool). b || is_closed_out given) before ∙ ap (λ (b : Bool). has_closed outs || b) (or_false (is_closed_out given))
    ∙ sym (has_closed-append outs (given ∷ []))

out_alone : (spelling : Spelling) (given : HubOut) → out_on spelling given ≡ outs_on spelling (given ∷ [])
out_alone spelling given = sym (append-nil (out_on spelling given))

-- A reply that was put is what the hub gave.
pub out_put : (spelling : Spelling) (so_far : EventOutcome) (c : ℕ) (sent : Sent) (s : Sinks) (out audit : List ℕ)
    → PutBoth (sent_on spelling c sent) (sent_audit (so_far.count + 1) sent) (Ok tt) s out audit
    → PutsOut spelling so_far (Reply c sent) (Ok (record { count = so_far.count + 1; closed = so_far.closed })) s out audit
out_put spelling so_far c sent s out audit h = (omega arith, or_false so_far.closed, h.0, h.1 ∙ sym (append-nil (sent_audit (so_far.count + 1) sent)))

-- So is the line that says that its connection was closed.
pub out_closed : (spelling : Spelling) (so_far : EventOutcome) (c : ℕ) (s : Sinks) (out : List ℕ) → out ≡ closed_on spelling c
    → PutsOut spelling so_far (Closed c) (Ok (record { count = so_far.count; closed = true })) s out []
out_closed spelling so_far c s out put = (omega arith, or_true so_far.closed, put, refl)

-- What was lost in a part was lost in the whole.
out_lost_within : (spelling : Spelling) (all part : Sinks) (k : ℕ) (lost : FailedSink) (given : HubOut) (o au : List ℕ) → FailsWithin all part
    → IsOutLost spelling k lost given part o au → IsOutLost spelling k lost given all o au
out_lost_within spelling all part k lost (Reply c sent) o au within h = record { torn = h.torn; fault = faulted_within all part lost within h.fault }
out_lost_within spelling all part k lost (Closed c) o au within h = (h.0, h.1, h.2, h.3, within.out h.4)

-- The calls so far, and one more.
module _ (spelling : Spelling) (x : AnswerSpec) (hub between new : HubSeen) (a b c : RunSeen) (served : ℕ) (so_far : EventOutcome) (o au : List ℕ)
    (s : PutsSoFar spelling x hub between (span a b) served so_far o au) where
  -- What it gave was put.
  pub so_far_more : (more : EventOutcome) (given : HubOut) (part : Sinks) (p bu : List ℕ)
      → Nexts IsTaken (Handles spelling x) between between.turn (Some given) new b c → PutsOut spelling so_far given (Ok more) part p bu
      → PutsSoFar spelling x hub new (span a c) served more (o ++ p) (au ++ bu)
  so_far_more more given part p bu next put = record {
    outs = s.outs ++ given ∷ [];
    given = given-push IsTaken (Handles spelling x) s.outs hub between new given a b c s.given next;
    put = record {
      count_is = count_next served so_far.count more.count s.outs given s.put.count_is put.0;
      closed_is = closed_next s.outs given so_far.closed more.closed s.put.closed_is put.1;
      out_text =
          ap (λ (t : List ℕ). t ++ p) s.put.out_text ∙ ap (λ (t : List ℕ). outs_on spelling s.outs ++ t) (put.2 ∙ out_alone spelling given)
          ∙ sym (outs_on-append spelling s.outs (given ∷ []));
      audit_text =
          ap (λ (t : List ℕ). t ++ bu) s.put.audit_text ∙ ap (λ (t : List ℕ). outs_audited (served + 1) s.outs ++ t) put.3
          ∙ audited_next served so_far.count s.outs given s.put.count_is;
    };
  }

  -- What it gave was lost.
  pub so_far_lost : (lost : FailedSink) (given : HubOut) (all part : Sinks) (p bu : List ℕ) → FailsWithin all part
      → Nexts IsTaken (Handles spelling x) between between.turn (Some given) new b c → PutsOut spelling so_far given (Err lost) part p bu
      → PutsSome spelling x hub (span a c) served (record { lost = lost; count = so_far.count + 1 }) all (o ++ p) (au ++ bu)
  so_far_lost lost given all part p bu within next torn = record {
    outs = s.outs;
    last = given;
    left = new;
    out_torn = p;
    audit_torn = bu;
    given = given-push IsTaken (Handles spelling x) s.outs hub between new given a b c s.given next;
    torn = out_lost_within spelling all part (so_far.count + 1) lost given p bu within torn;
    count_is = ap (λ (n : ℕ). n + 1) s.put.count_is;
    out_text = ap (λ (t : List ℕ). t ++ p) s.put.out_text;
    audit_text = ap (λ (t : List ℕ). t ++ bu) s.put.audit_text;
  }

  -- It gave nothing more.
  pub so_far_all : Nexts IsTaken (Handles spelling x) between between.turn None new b c → PutsAll spelling x hub new (span a c) served so_far o au
  so_far_all next = record { outs = s.outs; emptied = given-all IsTaken (Handles spelling x) s.outs hub between new a b c s.given next; put = s.put }
