-- An event that a hub takes, and the lines of its entries.
use Rattle.std.proofs.Common.{◌≡◌, ◌∙◌, ap, sym, subst, refl, inl, inr, ℕ, zero, suc, ◌+◌, ◌-◌, ◌≤◌, ◌^◌, ◌&&◌, ◌⊎◌, not, Bool, true, false, is_some, Option, Some, None, Result, Ok, Err, List, [], ◌∷◌, ◌++◌, length, take, drop, append-nil, length-append, if◌then◌else◌, decimal, arith}
use Rattle.jac_serve_events.specs.RunSeen.{RunSeen}
use Rattle.jac_replies.specs.Failed.{status_of_stop}
use Rattle.jac_replies.specs.Refused.{refusal}
use Rattle.jac_replies.specs.declared.answer.Answer.{Answer}
use Rattle.jac_replies.specs.declared.answer.Ask.{Ask}
use Rattle.jac_events.specs.declared.event.Event.{Event}
use Rattle.jac_events.specs.declared.event.Event.TheVariants.{Ask as Asking, Begin, Piece, Finish}
use Rattle.jac_http.specs.Reading.{IsReading}
use Rattle.jac_http.specs.Requests.{IsTaken}
use Rattle.jac_hub.specs.declared.hub.HubFault.{HubFault}
use Rattle.jac_hub.specs.declared.hub.HubFault.TheVariants as faults
use Rattle.jac_hub.specs.declared.hub.HubOut.{HubOut}
use Rattle.jac_hub.specs.declared.hub.HubOut.TheVariants.{Reply, Closed}
use Rattle.jac_hub.specs.declared.hub.Turn.{Turn}
use Rattle.jac_hub.specs.declared.hub.Turn.TheVariants as turns
use Rattle.jac_hub.specs.Channel.{LIMIT, ChannelSeen, channel_with}
use Rattle.jac_hub.specs.Hearing.{asked, Subject, whole, refused, broken, Hearing}
use Rattle.jac_hub.specs.Heard.{Connection, Connections, bytes_counted, StandsAt, StandAt, IsBroughtBy, after_both}
use Rattle.jac_hub.specs.Hub.{HubSeen, StepsBegin, StepsPiece, StepsFinish, Steps, puts_left, puts_left_by, unused_in}
use Rattle.jac_hub.specs.Served.{AreEntriesAnswered, AreLike, AreLikeAt, is_shut, closing, closings}
use Rattle.jac_hub.proofs.EventParts.{event-served_in_part}
use Rattle.jac_hub.proofs.Standing.{set-same}
use Rattle.jac_serve_events.specs.declared.serve.EventFault.{EventFault}
use Rattle.jac_serve_events.specs.declared.serve.EventFault.TheVariants as event_faults
use Rattle.jac_serve_events.specs.declared.serve.ReplayError.{ReplayError}
use Rattle.jac_serve_events.specs.declared.serve.ReplayError.TheVariants as stops
use Rattle.jac_replies.specs.declared.reply.Spelling.{Spelling}
use Rattle.jac_replies.specs.declared.reply.Spelling.TheVariants as spellings
use Rattle.jac_serve_events.specs.declared.outputs.WriteFailure.{WriteFailure}
use Rattle.jac_serve_events.specs.declared.outputs.FailedSink.{FailedSink}
use Rattle.jac_serve_events.specs.AnswerSpec.{LogEntry, hearing, AnswerSpec, IsAnswerSpec}
use Rattle.jac_serve_events.specs.Log.{reply_to, entry_on, replies_on, replies_text, closing_text, audit_line}
use Rattle.jac_replies.specs.Spelled.{closed_text, audit_text}
use Rattle.jac_serve_events.specs.Outside.{Span, span, Sinks, PutBoth, IsFront, IsLostOn, FaultedAt}
use Rattle.jac_serve_events.specs.Script.{event_fault_of}
use Rattle.jac_serve_events.specs.declared.dispatcher.AskOutcome.{AskOutcome}
use Rattle.jac_serve_events.specs.declared.dispatcher.AskOutcome.TheVariants.{Answered, Unanswered}
use Rattle.jac_serve_events.specs.Serve.{IsAsked, asked_line, asked_audit, IsHandled, Handles, closed_on, outs_on, outs_audited, replies_in, IsOutLost, PutsSome, IsEventServed, IsLastLost, IsClosingTorn, IsEventCut, TakesEvent, AnswersEvent, is_connection_open, event_fault_by}
use Rattle.jac_serve_events.proofs.HubLemmas.{handled-tells, lines_all, cut_last}

pub err_same : (x y : HubFault) → ◌≡◌ {A = Result (Unit {0}) HubFault} (Err x) (Err y) → x ≡ y
err_same x y e = cc

none_some : (X : Type 0) (event_fault : EventFault) → None ≡ Some event_fault → X
none_some X event_fault e = absurd cc

by_memory : (X : Type 0) (line : ℕ) (fault : HubFault) (event_fault : EventFault) → ◌≡◌ {A = Result (Unit {0}) HubFault} (Err fault) (Err faults.Memory) → event_fault_by line fault ≡ Some event_fault → X
by_memory X line fault event_fault e h = none_some X event_fault (sym (ap (event_fault_by line) (err_same fault faults.Memory e)) ∙ h)

pub by_ok : (X : Type 0) (fault : HubFault) → ◌≡◌ {A = Result (Unit {0}) HubFault} (Err fault) (Ok tt) → X
by_ok X fault e = absurd cc

by_fault : (line : ℕ) (fault named : HubFault) (event_fault : EventFault) → ◌≡◌ {A = Result (Unit {0}) HubFault} (Err fault) (Err named) → event_fault_by line fault ≡ Some event_fault → event_fault_by line named ≡ Some event_fault
by_fault line fault named event_fault e h = sym (ap (event_fault_by line) (err_same fault named e)) ∙ h

begin_refused : (h : Hearing Ask Answer) (line c : ℕ) (o : Option ChannelSeen) (k : Option (Connection Ask)) (fault : HubFault) (event_fault : EventFault) (old new : HubSeen)
    → AreLikeAt h o k → StepsBegin old c o (Err fault) new → event_fault_by line fault ≡ Some event_fault → (if is_some k then Some (event_faults.AlreadyOpen line c) else None) ≡ Some event_fault
begin_refused h line c None None fault event_fault old new like (inl e) is = by_ok _ fault e.0
begin_refused h line c None None fault event_fault old new like (inr e) is = by_memory _ line fault event_fault e.0 is
begin_refused h line c None (Some k) fault event_fault old new like e is = absurd like
begin_refused h line c (Some o) None fault event_fault old new like e is = absurd like
begin_refused h line c (Some o) (Some k) fault event_fault old new like e is = by_fault line fault (faults.AlreadyOpen c) event_fault e.0 is

piece_refused : (h : Hearing Ask Answer) (line c : ℕ) (bytes : List ℕ) (o : Option ChannelSeen) (k : Option (Connection Ask)) (fault : HubFault) (event_fault : EventFault) (old new : HubSeen)
    → AreLikeAt h o k → StepsPiece old c bytes o (Err fault) new → event_fault_by line fault ≡ Some event_fault → (if is_some k then None else Some (event_faults.NotOpen line c)) ≡ Some event_fault
piece_refused h line c bytes None None fault event_fault old new like e is = by_fault line fault (faults.NotOpen c) event_fault e.0 is
piece_refused h line c bytes None (Some k) fault event_fault old new like e is = absurd like
piece_refused h line c bytes (Some o) None fault event_fault old new like e is = absurd like
piece_refused h line c bytes (Some o) (Some k) fault event_fault old new like (inl e) is = by_ok _ fault e.1
piece_refused h line c bytes (Some o) (Some k) fault event_fault old new like (inr (inl e)) is = by_ok _ fault e.1
piece_refused h line c bytes (Some o) (Some k) fault event_fault old new like (inr (inr e)) is = by_memory _ line fault event_fault e.1 is

finish_refused : (h : Hearing Ask Answer) (line c : ℕ) (o : Option ChannelSeen) (k : Option (Connection Ask)) (fault : HubFault) (event_fault : EventFault) (old new : HubSeen)
    → AreLikeAt h o k → StepsFinish old c o (Err fault) new → event_fault_by line fault ≡ Some event_fault → (if is_some k then None else Some (event_faults.NotOpen line c)) ≡ Some event_fault
finish_refused h line c None None fault event_fault old new like e is = by_fault line fault (faults.NotOpen c) event_fault e.0 is
finish_refused h line c None (Some k) fault event_fault old new like e is = absurd like
finish_refused h line c (Some o) None fault event_fault old new like e is = absurd like
finish_refused h line c (Some o) (Some k) fault event_fault old new like e is = by_ok _ fault e.0

-- A hub refuses an event only if the definition does.
step_refused : (h : Hearing Ask Answer) (line : ℕ) (event : Event) (known : Connections Ask) (fault : HubFault) (event_fault : EventFault) (old new : HubSeen)
    → AreLike h old.channels known → Steps old event (Err fault) new → event_fault_by line fault ≡ Some event_fault → event_fault_of line (is_connection_open known) event ≡ Some event_fault
step_refused h line (Asking viewer method path query body) known fault event_fault old new like steps is = absurd steps
step_refused h line (Begin c) known fault event_fault old new like steps is = begin_refused h line c (old.channels c) (known c) fault event_fault old new (like c) steps is
step_refused h line (Piece c bytes) known fault event_fault old new like steps is = piece_refused h line c bytes (old.channels c) (known c) fault event_fault old new (like c) steps is
step_refused h line (Finish c) known fault event_fault old new like steps is = finish_refused h line c (old.channels c) (known c) fault event_fault old new (like c) steps is

-- The event was taken, or memory ran out.
abbrev pub IsKept : Result (Unit {0}) HubFault → Type 0
IsKept taken = (taken ≡ Ok tt) ⊎ (taken ≡ Err faults.Memory)

not_kept : (X : Type 0) (fault : HubFault) (taken : Result (Unit {0}) HubFault) → (fault ≡ faults.Memory → ⊥) → taken ≡ Err fault → IsKept taken → X
not_kept X fault taken other is (inl ok) = by_ok X fault (sym is ∙ ok)
not_kept X fault taken other is (inr e) = absurd (other (err_same fault faults.Memory (sym is ∙ e)))

not_open_other : (c : ℕ) → faults.NotOpen c ≡ faults.Memory → ⊥
not_open_other c e = cc

already_other : (c : ℕ) → faults.AlreadyOpen c ≡ faults.Memory → ⊥
already_other c e = cc

begin_kept : (h : Hearing Ask Answer) (line c : ℕ) (o : Option ChannelSeen) (k : Option (Connection Ask)) (taken : Result (Unit {0}) HubFault) (old new : HubSeen)
    → AreLikeAt h o k → StepsBegin old c o taken new → IsKept taken → (if is_some k then Some (event_faults.AlreadyOpen line c) else None) ≡ None
begin_kept h line c None None taken old new like e kept = refl
begin_kept h line c None (Some k) taken old new like e kept = absurd like
begin_kept h line c (Some o) None taken old new like e kept = absurd like
begin_kept h line c (Some o) (Some k) taken old new like e kept = not_kept _ (faults.AlreadyOpen c) taken (already_other c) e.0 kept

piece_kept : (h : Hearing Ask Answer) (line c : ℕ) (bytes : List ℕ) (o : Option ChannelSeen) (k : Option (Connection Ask)) (taken : Result (Unit {0}) HubFault) (old new : HubSeen)
    → AreLikeAt h o k → StepsPiece old c bytes o taken new → IsKept taken → (if is_some k then None else Some (event_faults.NotOpen line c)) ≡ None
piece_kept h line c bytes None None taken old new like e kept = not_kept _ (faults.NotOpen c) taken (not_open_other c) e.0 kept
piece_kept h line c bytes None (Some k) taken old new like e kept = absurd like
piece_kept h line c bytes (Some o) None taken old new like e kept = absurd like
piece_kept h line c bytes (Some o) (Some k) taken old new like e kept = refl

finish_kept : (h : Hearing Ask Answer) (line c : ℕ) (o : Option ChannelSeen) (k : Option (Connection Ask)) (taken : Result (Unit {0}) HubFault) (old new : HubSeen)
    → AreLikeAt h o k → StepsFinish old c o taken new → IsKept taken → (if is_some k then None else Some (event_faults.NotOpen line c)) ≡ None
finish_kept h line c None None taken old new like e kept = not_kept _ (faults.NotOpen c) taken (not_open_other c) e.0 kept
finish_kept h line c None (Some k) taken old new like e kept = absurd like
finish_kept h line c (Some o) None taken old new like e kept = absurd like
finish_kept h line c (Some o) (Some k) taken old new like e kept = refl

-- A hub takes an event only if the definition does.
pub step_kept : (h : Hearing Ask Answer) (line : ℕ) (event : Event) (known : Connections Ask) (taken : Result (Unit {0}) HubFault) (old new : HubSeen)
    → AreLike h old.channels known → Steps old event taken new → IsKept taken → event_fault_of line (is_connection_open known) event ≡ None
step_kept h line (Asking viewer method path query body) known taken old new like steps kept = absurd steps
step_kept h line (Begin c) known taken old new like steps kept = begin_kept h line c (old.channels c) (known c) taken old new (like c) steps kept
step_kept h line (Piece c bytes) known taken old new like steps kept = piece_kept h line c bytes (old.channels c) (known c) taken old new (like c) steps kept
step_kept h line (Finish c) known taken old new like steps kept = finish_kept h line c (old.channels c) (known c) taken old new (like c) steps kept

-- Why an event wasn't taken.
pub stopped_answers : (x : AnswerSpec) (old new : HubSeen) (k : RunSeen) (served line : ℕ) (event : Event) (stopped : ReplayError) (s : Sinks)
    → TakesEvent line old event (Err stopped) new → AnswersEvent x old new (span k k) served line event (Err stopped) s [] []
stopped_answers x old new k served line event (stops.Refused event_fault) s h =
    (λ known like. step_refused (hearing x) line event known h.0 event_fault old new like h.1 h.2, refl, refl, refl)
stopped_answers x old new k served line event stops.Memory s h = (refl, refl, refl)
stopped_answers x old new k served line event stops.Write s h = absurd h

drop_shorter : (n : ℕ) (xs : List ℕ) → length (drop n xs) ≤ length xs
drop_shorter zero xs = omega arith
drop_shorter (suc n) [] = omega arith
drop_shorter (suc n) (x ∷ xs) = let s = drop_shorter n xs in omega (arith, s)

same_shorter : (from to : List ℕ) → to ≡ from → length to ≤ length from
same_shorter from to e = let s = ap length e in omega (arith, s)

stands_shorter : (h : Hearing Ask Answer) (subject : Subject Ask) (from to : List ℕ) → StandsAt h subject from to → length to ≤ length from
stands_shorter h (whole ask close) from to s = let d = drop_shorter s.1 from in let e = ap length s.5 in omega (arith, d, e)
stands_shorter h (refused status) from to s = same_shorter from to s.1
stands_shorter h broken from to s = same_shorter from to s

stand_shorter : (h : Hearing Ask Answer) (subjects : List (Subject Ask)) (from to : List ℕ) → StandAt h subjects from to → length to ≤ length from
stand_shorter h [] from to s = same_shorter from to s
stand_shorter h (subject ∷ subjects) from to s =
    let one = stands_shorter h subject from s.0 s.1 in
    let more = stand_shorter h subjects s.0 to s.2 in
    omega (arith, one, more)

limit_is : LIMIT ≡ 16777216
unfolding LIMIT
limit_is = refl

take_short : (n : ℕ) (xs : List ℕ) → length (take n xs) ≤ n
take_short zero xs = omega arith
take_short (suc n) [] = omega arith
take_short (suc n) (x ∷ xs) = let s = take_short n xs in omega (arith, s)

open_short : (h : Hearing Ask Answer) (channel : ChannelSeen) (k : Option (Connection Ask)) → AreLikeAt h (Some channel) k → channel.closed ≡ false → length channel.unused ≤ LIMIT
open_short h channel None like open_still = absurd like
open_short h channel (Some one) like open_still =
    let l = like.1 (sym like.0 ∙ open_still) in
    let short = stand_shorter h one.heard (bytes_counted one) channel.unused l.unused in
    let all = take_short LIMIT one.bytes in
    omega (arith, short, all)

left_same : (old new : HubSeen) → new ≡ old → old.turn ≡ turns.Idle → puts_left new ≤ 2 ^ 26
left_same old new same idle =
    let e : puts_left new ≡ 0 = ap puts_left same ∙ ap (λ (t : Turn). puts_left_by t old.channels) idle in
    omega (arith, e)

left_as : (new : HubSeen) (n : ℕ) (as_is : HubSeen) → new ≡ as_is → puts_left as_is ≤ 2 ^ 26 → puts_left new ≤ 2 ^ 26
left_as new n as_is same h = let e = ap puts_left same in omega (arith, e, h)

begin_left : (h : Hearing Ask Answer) (c : ℕ) (o : Option ChannelSeen) (taken : Result (Unit {0}) HubFault) (old new : HubSeen) → old.turn ≡ turns.Idle → StepsBegin old c o taken new → puts_left new ≤ 2 ^ 26
begin_left h c None taken old new idle (inl e) = left_as new 0 _ e.1 (omega arith)
begin_left h c None taken old new idle (inr e) = left_same old new e.1 idle
begin_left h c (Some o) taken old new idle e = left_same old new e.1 idle

grown_short : (channel : ChannelSeen) (bytes : List ℕ) → length channel.unused ≤ LIMIT → length (channel_with bytes channel).unused + 4 ≤ 2 ^ 26
grown_short channel bytes short =
    let all = length-append channel.unused (take (LIMIT - channel.taken) bytes) in
    let more = take_short (LIMIT - channel.taken) bytes in
    let limit = limit_is in
    omega (arith, short, all, more, limit)

piece_left : (h : Hearing Ask Answer) (c : ℕ) (bytes : List ℕ) (o : Option ChannelSeen) (k : Option (Connection Ask)) (taken : Result (Unit {0}) HubFault) (old new : HubSeen) → old.turn ≡ turns.Idle → AreLikeAt h o k
    → StepsPiece old c bytes o taken new → puts_left new ≤ 2 ^ 26
piece_left h c bytes None k taken old new idle like e = left_same old new e.1 idle
piece_left h c bytes (Some o) k taken old new idle like (inl e) = left_as new 0 _ e.2 (omega arith)
piece_left h c bytes (Some o) k taken old new idle like (inr (inl e)) =
    let there = ap unused_in (set-same c (Some (channel_with bytes o)) old.channels) in
    let short = grown_short o bytes (open_short h o k like e.0) in
    left_as new 0 _ e.2 (omega (arith, there, short))
piece_left h c bytes (Some o) k taken old new idle like (inr (inr e)) = left_as new 0 _ e.2 (omega arith)

finish_left : (h : Hearing Ask Answer) (c : ℕ) (o : Option ChannelSeen) (taken : Result (Unit {0}) HubFault) (old new : HubSeen) → old.turn ≡ turns.Idle → StepsFinish old c o taken new → puts_left new ≤ 2 ^ 26
finish_left h c None taken old new idle e = left_same old new e.1 idle
finish_left h c (Some o) taken old new idle e = left_as new 0 _ e.1 (omega arith)

-- The most that an event may bring.
pub step_left : (h : Hearing Ask Answer) (event : Event) (known : Connections Ask) (taken : Result (Unit {0}) HubFault) (old new : HubSeen)
    → old.turn ≡ turns.Idle → AreLike h old.channels known → Steps old event taken new → puts_left new ≤ 2 ^ 26
step_left h (Asking viewer method path query body) known taken old new idle like steps = absurd steps
step_left h (Begin c) known taken old new idle like steps = begin_left h c (old.channels c) taken old new idle steps
step_left h (Piece c bytes) known taken old new idle like steps = piece_left h c bytes (old.channels c) (known c) taken old new idle (like c) steps
step_left h (Finish c) known taken old new idle like steps = finish_left h c (old.channels c) taken old new idle steps

-- That a connection was closed is put out as one line, or not at all.
record IsClosingOut (event : Event) (before after : Connections Ask) (c : ℕ) : Type 0 where
  out : closings event before after ≡ Closed c ∷ []
  text : closing_text event before after ≡ closed_text c

piece_closing : (c : ℕ) (closed : Bool) → (closing c closed ≡ []) ⊎ ((closing c closed ≡ Closed c ∷ []) × ((if closed then closed_text c else []) ≡ closed_text c))
piece_closing c true = inr (refl, refl)
piece_closing c false = inl refl

closing_shape : (event : Event) (before after : Connections Ask) → (closings event before after ≡ []) ⊎ ((c : ℕ) × IsClosingOut event before after c)
closing_shape (Asking viewer method path query body) before after = inl refl
closing_shape (Begin c) before after = inl refl
closing_shape (Piece c bytes) before after = shape (piece_closing c (not (is_shut (before c)) && is_shut (after c)))
  where
    shape : (closing c (not (is_shut (before c)) && is_shut (after c)) ≡ [])
        ⊎ ((closing c (not (is_shut (before c)) && is_shut (after c)) ≡ Closed c ∷ []) × (closing_text (Piece c bytes) before after ≡ closed_text c))
        → (closings (Piece c bytes) before after ≡ []) ⊎ ((d : ℕ) × IsClosingOut (Piece c bytes) before after d)
    shape (inl none) = inl none
    shape (inr one) = inr (c, record { out = one.0; text = one.1 })
closing_shape (Finish c) before after = inl refl

closed_some : (c : ℕ) → closed_text c ≡ [] → ⊥
closed_some c none = cc

last_same : (xs ys : List HubOut) (x y : HubOut) → xs ++ x ∷ [] ≡ ys ++ y ∷ [] → (xs ≡ ys) × (x ≡ y)
last_same [] [] x y e = (refl, cc)
last_same [] (a ∷ []) x y e = absurd cc
last_same [] (a ∷ (b ∷ ys)) x y e = absurd cc
last_same (a ∷ []) [] x y e = absurd cc
last_same (a ∷ (b ∷ xs)) [] x y e = absurd cc
last_same (a ∷ xs) (b ∷ ys) x y e =
    let tails : xs ++ x ∷ [] ≡ ys ++ y ∷ [] = cc in
    let rest = last_same xs ys x y tails in
    let heads : a ≡ b = cc in
    (λ i. heads i ∷ rest.0 i, rest.1)

out_faulted : (spelling : Spelling) (k : ℕ) (lost : FailedSink) (given : HubOut) (s : Sinks) (out audit : List ℕ) → IsOutLost spelling k lost given s out audit → FaultedAt lost s
out_faulted spelling k lost (Reply c sent) s out audit h = h.fault
out_faulted spelling k lost (Closed c) s out audit h = subst (λ (l : FailedSink). FaultedAt l s) (sym h.1) h.4

-- What was lost, by what the hub gave.
module _ (spelling : Spelling) (x : AnswerSpec) (lawful : IsAnswerSpec x) (n served : ℕ) (event : Event) (known : Connections Ask) (a b : RunSeen) (mine : List LogEntry) (replies outs : List HubOut) (last : HubOut)
    (cut : WriteFailure) (s : Sinks) (out audit out_torn audit_torn : List ℕ) (start : x.ready a)
    (answered : AreEntriesAnswered (hearing x) (IsHandled spelling x) (refusal 500 None) a mine replies b)
    (torn : IsOutLost spelling cut.count cut.lost last s out_torn audit_torn) (count_is : cut.count ≡ served + replies_in outs + 1)
    (out_text : out ≡ outs_on spelling outs ++ out_torn) (audit_text : audit ≡ outs_audited (served + 1) outs ++ audit_torn) where
  by_reply : replies ≡ outs ++ last ∷ [] → IsLastLost spelling cut.lost served mine out audit × (cut.count ≡ served + length mine)
  by_reply parts =
      let c = cut_last spelling x lawful mine replies outs last a b start answered parts in
      let count : cut.count ≡ served + length c.whole_ones + 1 = count_is ∙ ap (λ (m : ℕ). served + m + 1) c.replies in
      let long = ap (λ (l : List LogEntry). length l) c.parts ∙ length-append c.whole_ones (c.entry ∷ []) in (
        record {
          whole_ones = c.whole_ones;
          entry = c.entry;
          out_torn = out_torn;
          audit_torn = audit_torn;
          parts = c.parts;
          torn =
              c.torn (served + length c.whole_ones + 1) cut.lost s out_torn audit_torn
              (subst (λ (m : ℕ). IsOutLost spelling m cut.lost last s out_torn audit_torn) count torn);
          out_text = out_text ∙ ap (λ (t : List ℕ). t ++ out_torn) c.text;
          audit_text = audit_text ∙ ap (λ (t : List ℕ). t ++ audit_torn) (c.audited (served + 1));
        },
        omega (arith, count, long),
      )

  by_closing : IsBroughtBy (hearing x) n event known mine
      → outs ++ last ∷ [] ≡ replies ++ closings event known (after_both (hearing x) event mine known)
      → (closings event known (after_both (hearing x) event mine known) ≡ []) ⊎ ((c : ℕ) × IsClosingOut event known (after_both (hearing x) event mine known) c)
      → (IsLastLost spelling cut.lost served mine out audit × (cut.count ≡ served + length mine)) ⊎ ((spelling ≡ spellings.Quoted) × IsClosingTorn x served n event known mine s out audit)
  by_closing brought parts (inl none) = inl (by_reply (sym (parts ∙ ap (λ (t : List HubOut). replies ++ t) none ∙ append-nil replies)))
  by_closing brought parts (inr one) =
      let same = last_same outs replies last (Closed one.0) (parts ∙ ap (λ (t : List HubOut). replies ++ t) one.1.out) in
      let closed : IsOutLost spelling cut.count cut.lost (Closed one.0) s out_torn audit_torn =
      subst (λ (l : HubOut). IsOutLost spelling cut.count cut.lost l s out_torn audit_torn) same.1 torn in
      let lines = lines_all spelling x lawful mine replies a b start answered in
      inr (
        closed.0,
        record {
          out_torn = out_torn;
          fault = closed.4;
          some = λ none. closed_some one.0 (sym one.1.text ∙ none);
          brought = brought;
          torn = subst (λ (t : List ℕ). IsFront out_torn t) (ap (λ (p : Spelling). closed_on p one.0) closed.0 ∙ sym one.1.text) closed.2;
          out_text =
              out_text ∙ ap (λ (t : List ℕ). t ++ out_torn)
              (ap (outs_on spelling) same.0 ∙ lines.text ∙ ap (λ (p : Spelling). replies_on p mine) closed.0);
          audit_text =
              audit_text ∙ ap (λ (t : List ℕ). outs_audited (served + 1) outs ++ t) closed.3 ∙ append-nil (outs_audited (served + 1) outs)
              ∙ ap (outs_audited (served + 1)) same.0 ∙ lines.audited (served + 1);
        },
      )

  torn_by : (outs ++ last ∷ [] ≡ replies) ⊎ (IsBroughtBy (hearing x) n event known mine × (outs ++ last ∷ [] ≡ replies ++ closings event known (after_both (hearing x) event mine known)))
      → (IsLastLost spelling cut.lost served mine out audit × (cut.count ≡ served + length mine)) ⊎ ((spelling ≡ spellings.Quoted) × IsClosingTorn x served n event known mine s out audit)
  torn_by (inl parts) = inl (by_reply (sym parts))
  torn_by (inr h) = by_closing h.0 h.1 (closing_shape event known (after_both (hearing x) event mine known))

-- A put failed while an event was served.
pub event_cut : (spelling : Spelling) (x : AnswerSpec) (lawful : IsAnswerSpec x) → IsReading IsTaken → (n served : ℕ) (event : Event) (known : Connections Ask) (taken : Result (Unit {0}) HubFault)
    (old stepped : HubSeen) (a b : RunSeen) (cut : WriteFailure) (s : Sinks) (out audit : List ℕ)
    → old.turn ≡ turns.Idle → AreLike (hearing x) old.channels known → Steps old event taken stepped → x.ready a
    → PutsSome spelling x stepped (span a b) served cut s out audit → IsEventCut spelling x (span a b) served cut n event known s out audit
event_cut spelling x lawful law n served event known taken old stepped a b cut sinks out audit idle like steps start p =
    let s = event-served_in_part (hearing x) law (Handles spelling x) (IsHandled spelling x) (refusal 500 None) n (handled-tells spelling x)
    event known taken old stepped p.left (p.outs ++ p.last ∷ []) a b idle like steps p.given in
    let lines = lines_all spelling x lawful s.mine s.replies a b start s.answered in
    record {
      mine = s.mine;
      begun = s.begun;
      entries = lines.entries;
      fault = out_faulted spelling cut.count cut.lost p.last sinks p.out_torn p.audit_torn p.torn;
      torn = torn_by spelling x lawful n served event known a b s.mine s.replies p.outs p.last cut sinks out audit p.out_torn p.audit_torn start s.answered p.torn p.count_is p.out_text p.audit_text s.put;
    }

-- The lines for the outcome of a request.
pub asked_told : (x : AnswerSpec) (k : Span RunSeen) (ask : Ask) (made : AskOutcome) → IsAsked x k ask made
    → (answer : Answer) × x.entry k (whole ask false) answer × (asked_line ask.method made ≡ reply_to asked (whole ask false) answer)
    × ((n : ℕ) → asked_audit n made ≡ audit_text n answer.status ask.viewer answer.shown answer.consulted)
asked_told x k ask (Answered reply audit) (answer, entry, reply_is, audit_is) = (answer, entry, reply_is, λ n. ap (λ (t : List ℕ). decimal n ++ t) audit_is)
asked_told x k ask (Unanswered stop viewer) (entry, viewer_is) =
    (refusal (status_of_stop stop) None, entry, refl, λ n. ap (λ (v : Option ℕ). audit_text n (status_of_stop stop) v None None) viewer_is)

abbrev pub ask_entry : ℕ → Ask → Answer → LogEntry
ask_entry n ask answer = record { place = n; source = asked; subject = whole ask false; answer = answer }

-- The request of an `ask` line was served.
pub ask_served : (x : AnswerSpec) (lawful : IsAnswerSpec x) (hub : HubSeen) (a b : RunSeen) (served n : ℕ) (viewer : Option ℕ) (method path query body : List ℕ) (s : Sinks) (out audit : List ℕ) (known : Connections Ask) (made : AskOutcome)
    → hub.turn ≡ turns.Idle → AreLike (hearing x) hub.channels known
    → IsAsked x (span a b) (x.asks viewer method path query body) made
    → PutBoth (asked_line method made) (asked_audit (served + 1) made) (Ok tt) s out audit
    → IsEventServed spellings.Quoted x hub (span a b) served (record { count = served + 1; closed = false }) n (Asking viewer method path query body) known out audit
ask_served x lawful hub a b served n viewer method path query body s out audit known made idle like is put =
    let ask = x.asks viewer method path query body in
    let told = asked_told x (span a b) ask made is in
    let entry = ask_entry n ask told.0 in
    record {
      mine = entry ∷ [];
      brought_by = (told.0, refl);
      entries = lawful.one a b entry told.1;
      count_is = omega arith;
      closed_is = refl;
      like = like;
      idle = idle;
      out_text =
          put.0 ∙ ap (λ (m : List ℕ). asked_line m made) (sym (lawful.same_method viewer method path query body)) ∙ told.2
          ∙ sym (append-nil (entry_on spellings.Quoted entry)) ∙ sym (append-nil (replies_text (entry ∷ [])));
      audit_text = put.1 ∙ told.3 (served + 1) ∙ sym (append-nil (audit_line (served + 1) entry));
    }

pub ask_torn : (x : AnswerSpec) (lawful : IsAnswerSpec x) (a b : RunSeen) (served n : ℕ) (viewer : Option ℕ) (method path query body : List ℕ) (lost : FailedSink) (s : Sinks) (out audit : List ℕ) (known : Connections Ask) (made : AskOutcome)
    → IsAsked x (span a b) (x.asks viewer method path query body) made
    → PutBoth (asked_line method made) (asked_audit (served + 1) made) (Err lost) s out audit
    → IsEventCut spellings.Quoted x (span a b) served (record { lost = lost; count = served + 1 }) n (Asking viewer method path query body) known s out audit
ask_torn x lawful a b served n viewer method path query body lost s out audit known made is put =
    let ask = x.asks viewer method path query body in
    let told = asked_told x (span a b) ask made is in
    let entry = ask_entry n ask told.0 in
    record {
      mine = entry ∷ [];
      begun = inr (told.0, refl);
      entries = lawful.one a b entry told.1;
      fault = put.fault;
      torn = inl (
        record {
          whole_ones = [];
          entry = entry;
          out_torn = out;
          audit_torn = audit;
          parts = refl;
          torn =
              subst (λ (t : List ℕ). IsLostOn lost t (audit_line (served + 0 + 1) entry) out audit) (ap (λ (m : List ℕ). asked_line m made) (sym (lawful.same_method viewer method path query body)) ∙ told.2)
              (subst (λ (t : List ℕ). IsLostOn lost (asked_line method made) t out audit) (told.3 (served + 1) ∙ ap (λ (m : ℕ). audit_line m entry) (omega arith)) put.torn);
          out_text = refl;
          audit_text = refl;
        },
        omega arith,
      );
    }
