-- A hub takes a piece of a link's connection, and its replies are put.
use Rattle.std.proofs.Common.{◌≡◌, ◌∙◌, ◌≤◌, ap, sym, subst, refl, inl, inr, ℕ, ◌⊎◌, Bool, true, false, IsTrue, IsSome, Option, Some, None, Result, Ok, Err, List, [], ◌++◌, if◌then◌else◌, arith}
use Rattle.jac_io.specs.Linked.{LinkSeen}
use Rattle.jac_io.specs.Seen.{SinkSeen}
use Rattle.jac_serve_events.specs.RunSeen.{RunSeen}
use Rattle.jac_replies.specs.declared.answer.Ask.{Ask}
use Rattle.jac_events.specs.declared.event.Event.{Event}
use Rattle.jac_events.specs.declared.event.Event.TheVariants.{Ask as Asking, Begin, Piece, Finish}
use Rattle.jac_http.specs.Reading.{IsReading}
use Rattle.jac_http.specs.Requests.{IsTaken}
use Rattle.jac_http.specs.declared.taken.Taken.{Taken}
use Rattle.jac_hub.specs.declared.handler.Heard.{Heard}
use Rattle.jac_hub.specs.declared.sent.Sent.{Sent}
use Rattle.jac_hub.specs.declared.hub.HubFault.{HubFault}
use Rattle.jac_hub.specs.declared.hub.HubFault.TheVariants as faults
use Rattle.jac_hub.specs.declared.hub.HubOut.{HubOut}
use Rattle.jac_hub.specs.declared.hub.Turn.TheVariants.{Idle, Done}
use Rattle.jac_hub.specs.Channel.{ChannelSeen, new_channel}
use Rattle.jac_hub.specs.Heard.{Connections}
use Rattle.jac_hub.specs.Hub.{HubSeen, new_hub, with_channel, StepsPiece, Steps, Nexts}
use Rattle.jac_hub.specs.Served.{AreLike, IsLost}
use Rattle.jac_connections.specs.declared.link.Halt.TheVariants as halts
use Rattle.jac_connections.specs.declared.link.Standing.TheVariants as standings
use Rattle.jac_connections.specs.declared.wire.TakeError.TheVariants as misses
use Rattle.jac_replies.specs.declared.reply.Spelling.TheVariants as spellings
use Rattle.jac_connections.specs.Link.{as_sink}
use Rattle.jac_connections.specs.LinkSteps.{begun_hub, TakesPiece, MayTake, TakesIn, AnswersOn, standing_after, cut_by, Gave, IsPieceOn, ServesPiece}
use Rattle.jac_serve_events.specs.declared.outputs.EventOutcome.{EventOutcome}
use Rattle.jac_serve_events.specs.declared.outputs.WriteFailure.{WriteFailure}
use Rattle.jac_serve_events.specs.declared.outputs.FailedSink.{FailedSink}
use Rattle.jac_serve_events.specs.declared.outputs.FailedSink.TheVariants as losses
use Rattle.jac_serve_events.specs.AnswerSpec.{hearing, AnswerSpec, IsAnswerSpec}
use Rattle.jac_serve_events.specs.Outside.{span, Sinks, sinks, HasFaulted, FaultedAt}
use Rattle.jac_serve_events.specs.Serve.{IsEventServed, PutsOuts}
use Rattle.jac_serve_events.proofs.EventLemmas.{err_same, by_ok, event_cut}
use Rattle.jac_serve_events.proofs.HubLemmas.{event_whole}
use Rattle.jac_serve_events.proofs.OutsideLemmas.{Rose-widen}

piece_fault : (old new : HubSeen) (c : ℕ) (bytes : List ℕ) (fault : HubFault) (o : Option ChannelSeen) → IsSome o → StepsPiece old c bytes o (Err fault) new → fault ≡ faults.Memory
piece_fault old new c bytes fault None some e = absurd cc
piece_fault old new c bytes fault (Some channel) some (inl e) = by_ok _ fault e.1
piece_fault old new c bytes fault (Some channel) some (inr (inl e)) = by_ok _ fault e.1
piece_fault old new c bytes fault (Some channel) some (inr (inr e)) = err_same fault faults.Memory e.1

no_error : (done : Unit {0}) (fault : HubFault) (X : Type 0) → ◌≡◌ {A = Result (Unit {0}) HubFault} (Ok done) (Err fault) → X
no_error done fault X e = absurd cc

-- A piece of a connection that has begun is refused only if memory runs out.
pub only_memory : (old new : HubSeen) (event : Event) (fault : HubFault) → MayTake old event → Steps old event (Err fault) new → fault ≡ faults.Memory
only_memory old new (Asking viewer method path query body) fault may steps = absurd may
only_memory old new (Begin c) fault may steps = absurd may
only_memory old new (Piece c bytes) fault may steps = piece_fault old new c bytes fault (old.channels c) may steps
only_memory old new (Finish c) fault may steps = absurd may

not_lost : (hub : HubSeen) (event : Event) (taken : Result (Unit {0}) HubFault) → MayTake hub event → IsLost event taken → ⊥
not_lost hub (Asking viewer method path query body) taken may lost = may
not_lost hub (Begin c) taken may lost = may
not_lost hub (Piece c bytes) taken may lost = lost
not_lost hub (Finish c) taken may lost = may

-- What a hub gave for a piece was put, or why it wasn't.
pub answers_on : (app : AnswerSpec) (lawful : IsAnswerSpec app) → IsReading IsTaken → (served : ℕ) (event : Event) (old stepped new : HubSeen) (a b : RunSeen) (s : Sinks) (out audit : List ℕ)
    → old.turn ≡ Idle → MayTake old event → TakesIn old event stepped → app.ready a
    → (result : Result EventOutcome WriteFailure) → PutsOuts spellings.Raw app stepped new (span a b) served result s out audit
    → AnswersOn app old new (span a b) served event result s out audit
answers_on app lawful law served event old stepped new a b s out audit idle may took start (Ok brought) p = λ n known like.
    event_whole spellings.Raw app lawful law n served brought event known took.0 old stepped new a b out audit idle like took.1 (not_lost old event took.0 may) start p
answers_on app lawful law served event old stepped new a b s out audit idle may took start (Err cut) p = λ n known like.
    event_cut spellings.Raw app lawful law n served event known took.0 old stepped a b cut s out audit idle like took.1 start p

-- ---- with the take before it

gave_then : (la lb lc : LinkSeen) (bytes : List ℕ) → (IsTrue lc.tells → IsTrue lb.tells) → (IsTrue lc.tells → lc.left ≡ lb.left)
    → Gave (span la lb) bytes → Gave (span la lc) bytes
gave_then la lb lc bytes back same gave = λ told. gave (back told) ∙ ap (λ (l : List ℕ). bytes ++ l) (sym (same told))

-- A link gave a piece, and the piece was served.
pub piece_stands : (app : AnswerSpec) (c served : ℕ) (old new : HubSeen) (la lb lc : LinkSeen) (a b : RunSeen) (s : Sinks) (bytes out audit : List ℕ) (brought : EventOutcome)
    → (IsTrue lc.tells → IsTrue lb.tells) → (IsTrue lc.tells → lc.left ≡ lb.left) → TakesPiece (span la lb) (Ok (Some bytes))
    → AnswersOn app old new (span a b) served (Piece c bytes) (Ok brought) s out audit
    → ServesPiece app c old new (span la lc) (span a b) served (Ok (standing_after brought)) out audit
piece_stands app c served old new la lb lc a b s bytes out audit brought back same took answers = by_closed brought.closed refl
  where
    one : (closed : Bool) → brought.closed ≡ closed → (n : ℕ) (known : Connections Ask) → AreLike (hearing app) old.channels known
        → IsPieceOn app c new (span la lc) (span a b) served (record { count = brought.count; closed = closed }) n known out audit
    one closed is n known like =
        let heard = answers n known like in
        record {
          bytes = bytes;
          is_take = took.0;
          gave = gave_then la lb lc bytes back same took.1;
          heard = subst (λ (x : Bool). IsEventServed spellings.Raw app new (span a b) served (record { count = brought.count; closed = x }) n (Piece c bytes) known out audit) is heard;
        }

    by_closed : (closed : Bool) → brought.closed ≡ closed → ServesPiece app c old new (span la lc) (span a b) served (Ok (if closed then standings.Over brought.count else standings.Open brought.count)) out audit
    by_closed true is = λ n known like. inr (inl (one true is n known like))
    by_closed false is = one false is

-- On a link, only a reply can be lost.
raw_torn : {P Q : Type 0} → P ⊎ ((spellings.Raw ≡ spellings.Quoted) × Q) → P
raw_torn (inl h) = h
raw_torn (inr h) = let same = h.0 in absurd cc

-- Not all was put.
pub piece_cut : (app : AnswerSpec) (c served : ℕ) (lost : FailedSink) (count : ℕ) (old new : HubSeen) (la lb lc : LinkSeen) (ua ub : SinkSeen) (a b : RunSeen) (bytes out audit : List ℕ)
    → (IsTrue lc.tells → IsTrue lb.tells) → (IsTrue lc.tells → lc.left ≡ lb.left) → la.faults ≤ lb.faults → TakesPiece (span la lb) (Ok (Some bytes))
    → AnswersOn app old new (span a b) served (Piece c bytes) (Err (record { lost = lost; count = count })) (sinks (as_sink lb) (as_sink lc) ua ub) out audit
    → ServesPiece app c old new (span la lc) (span a b) served (cut_by lost count) out audit
piece_cut app c served losses.Out count old new la lb lc ua ub a b bytes out audit back same later took answers = λ n known like.
    let h = answers n known like in
    let last = raw_torn h.torn in
    inr (inr (
      h.mine,
      record { bytes = bytes; is_take = took.0; gave = gave_then la lb lc bytes back same took.1; begun = h.begun; entries = h.entries },
      record { lost = last.0; count_is = last.1; rose = Rose-widen la.faults lb.faults lc.faults lc.faults later (omega arith) h.fault },
    ))
piece_cut app c served losses.Audit count old new la lb lc ua ub a b bytes out audit back same later took answers = λ n known like.
    let h = answers n known like in
    (h.mine, record { bytes = bytes; is_take = took.0; gave = gave_then la lb lc bytes back same took.1; begun = h.begun; entries = h.entries }, (raw_torn h.torn).0)

-- If the loss ends the run, the audit failed.
pub cut_cause : (lost : FailedSink) (count : ℕ) (s : Sinks) → cut_by lost count ≡ Err halts.Write → FaultedAt lost s → HasFaulted s.audit
cut_cause losses.Out count s is fault = absurd cc
cut_cause losses.Audit count s is fault = fault

-- The input has ended.
pub piece_last : (app : AnswerSpec) (c served : ℕ) (hub : HubSeen) (la lb : LinkSeen) (a : RunSeen)
    → TakesPiece (span la lb) (Ok None) → ServesPiece app c hub hub (span la lb) (span a a) served (Ok (standings.Over served)) [] []
piece_last app c served hub la lb a took = λ n known like.
    inl (record {
      quiet = record { gave = λ told. (took told).0 ∙ sym (took told).1; still = refl; no_out = refl; no_audit = refl };
      same_count = refl;
      cause = inl (λ told. (took told).1);
    })

-- The link failed.
pub piece_missed : (app : AnswerSpec) (c served : ℕ) (hub : HubSeen) (la lb : LinkSeen) (a : RunSeen)
    → TakesPiece (span la lb) (Err misses.Link) → ServesPiece app c hub hub (span la lb) (span a a) served (Ok (standings.Over served)) [] []
piece_missed app c served hub la lb a took = λ n known like.
    inl (record {
      quiet = record { gave = λ told. sym (took.0 told); still = refl; no_out = refl; no_audit = refl };
      same_count = refl;
      cause = inr took.1;
    })

pub piece_wanting : (app : AnswerSpec) (c served : ℕ) (hub : HubSeen) (la lb : LinkSeen) (a : RunSeen)
    → TakesPiece (span la lb) (Err misses.Memory) → ServesPiece app c hub hub (span la lb) (span a a) served (Err halts.Memory) [] []
piece_wanting app c served hub la lb a took = record { gave = λ told. sym (took told); still = refl; no_out = refl; no_audit = refl }

by_begin : {H : Type 0} (reads : List ℕ → Taken → Type 0) (handles : H → ℕ → Heard → Sent → H → Type 0) (c : ℕ) (stepped new : HubSeen) (done : Unit {0}) (result : Option HubOut) (before after : H)
    → Steps new_hub (Begin c) (Ok done) stepped → Nexts reads handles stepped stepped.turn result new before after → (new ≡ begun_hub c) × (after ≡ before)
by_begin {H} reads handles c stepped new done result before after (inr refused) next = no_error done faults.Memory _ refused.0
by_begin {H} reads handles c stepped new done result before after (inl made) next =
    let step : HubSeen = with_channel c (Some new_channel) Done new_hub in
    let h : Nexts reads handles step Done result new before after = subst (λ (s : HubSeen). Nexts reads handles s s.turn result new before after) made.1 next in
    (h.2, h.0)

-- A connection begins, and nothing comes of that.
pub begins : {H : Type 0} (reads : List ℕ → Taken → Type 0) (handles : H → ℕ → Heard → Sent → H → Type 0) (c : ℕ) (old stepped new : HubSeen) (done : Unit {0}) (result : Option HubOut) (before after : H)
    → old ≡ new_hub → Steps old (Begin c) (Ok done) stepped → Nexts reads handles stepped stepped.turn result new before after → (new ≡ begun_hub c) × (after ≡ before)
begins reads handles c old stepped new done result before after is steps next =
    by_begin reads handles c stepped new done result before after (subst (λ (h : HubSeen). Steps h (Begin c) (Ok done) stepped) is steps) next
