-- How the state of a hub relates to the requests that events brought.
use Rattle.std.specs.Prelude.{◌≡◌, ℕ, ◌+◌, ◌&&◌, ◌⊎◌, min, not, Bool, false, if◌then◌else◌, Option, Some, None, Result, Err, List, [], ◌∷◌, ◌++◌, length}
use Rattle.jac_events.specs.declared.event.Event.{Event}
use Rattle.jac_events.specs.declared.event.Event.TheVariants.{Ask, Begin, Piece, Finish}
use Rattle.jac_http.specs.declared.taken.Request.{Request}
use Rattle.jac_http.specs.declared.taken.Taken.{Taken}
use Rattle.jac_http.specs.Requests.{IsTaken}
use Rattle.jac_hub.specs.declared.handler.Heard.{Heard}
use Rattle.jac_hub.specs.declared.handler.Heard.TheVariants.{Whole as HeardWhole, Refused as HeardRefused}
use Rattle.jac_hub.specs.declared.sent.Sent.{Sent}
use Rattle.jac_hub.specs.declared.hub.HubFault.{HubFault}
use Rattle.jac_hub.specs.declared.hub.HubFault.TheVariants.{Memory}
use Rattle.jac_hub.specs.declared.hub.HubOut.{HubOut}
use Rattle.jac_hub.specs.declared.hub.HubOut.TheVariants.{Reply, Closed}
use Rattle.jac_hub.specs.declared.hub.Turn.TheVariants.{Idle}
use Rattle.jac_hub.specs.Hearing.{connection, Subject, whole, refused, broken, Entry, Hearing}
use Rattle.jac_hub.specs.Heard.{Connection, Connections, bytes_counted, is_closed, after_both, StandAt, IsBroughtBy, IsBegunBy}
use Rattle.jac_hub.specs.Channel.{LIMIT, ChannelSeen, sent_closes, fixed_500}
use Rattle.jac_hub.specs.Hub.{HubSeen, Steps, Nexts}

-- The agreement of a hub's connection with that of the definition, while an event's entries are
-- brought. The unused bytes follow what was heard.
pub record IsLike {I A : Type 0} (h : Hearing I A) (channel : ChannelSeen) (known : Connection I) :
    Type 0 where
  pub taken : channel.taken ≡ min LIMIT (length known.bytes)
  pub unused : StandAt h known.heard (bytes_counted known) channel.unused
  pub closed : channel.closed ≡ known.ended

-- The agreement between events. If the connection is closed, only that has to agree.
abbrev pub IsLikeAfter : {I A : Type 0} → Hearing I A → ChannelSeen → Connection I → Type 0
IsLikeAfter h channel known = (channel.closed ≡ is_closed known) × ((is_closed known ≡ false)
    → IsLike h channel known)

abbrev pub AreLikeAt : {I A : Type 0} → Hearing I A → Option ChannelSeen → Option (Connection I)
    → Type 0
AreLikeAt h None None = Unit {0}
AreLikeAt h None (Some known) = ⊥
AreLikeAt h (Some channel) None = ⊥
AreLikeAt h (Some channel) (Some known) = IsLikeAfter h channel known

-- The agreement of an idle hub with the connections of the definition.
abbrev pub AreLike : {I A : Type 0} → Hearing I A → (ℕ → Option ChannelSeen) → Connections I
    → Type 0
AreLike h channels known = (c : ℕ) → AreLikeAt h (channels c) (known c)

-- The calls of `next` put out these, and then return none. `before` and `after` are the handler's
-- states.
abbrev pub IsEmptied : {H : Type 0} → (List ℕ → Taken → Type 0) → (H → ℕ → Heard → Sent → H
    → Type 0) → HubSeen → List HubOut → HubSeen → H → H → Type 0
IsEmptied reads handles hub [] new before after = Nexts reads handles hub hub.turn None new before
    after
IsEmptied {H = H} reads handles hub (out ∷ outs) new before after =
    (later : HubSeen) × (between : H) × Nexts reads handles hub hub.turn (Some out) later before
    between
    × IsEmptied reads handles later outs new between after

-- Some calls of `next`, each of which put something out.
abbrev pub IsGiven : {H : Type 0} → (List ℕ → Taken → Type 0) → (H → ℕ → Heard → Sent → H → Type 0)
    → HubSeen → List HubOut → HubSeen → H → H → Type 0
IsGiven reads handles hub [] new before after = (new ≡ hub) × (after ≡ before)
IsGiven {H = H} reads handles hub (out ∷ outs) new before after =
    (later : HubSeen) × (between : H) × Nexts reads handles hub hub.turn (Some out) later before
    between
    × IsGiven reads handles later outs new between after

-- The connection has begun and is closed.
abbrev pub is_shut : {I : Type 0} → Option (Connection I) → Bool
is_shut None = false
is_shut (Some known) = is_closed known

abbrev pub closing : ℕ → Bool → List HubOut
closing c closed = if closed then Closed c ∷ [] else []

-- The output that says that the event closed its connection.
abbrev pub closings : {I : Type 0} → Event → Connections I → Connections I → List HubOut
closings (Ask viewer method path query body) before after = []
closings (Begin c) before after = []
closings (Piece c bytes) before after = closing c (not (is_shut (before c)) && is_shut (after c))
closings (Finish c) before after = []

-- An entry's answer agrees with what the handler was asked and sent, which `told` relates. The
-- handler isn't asked if memory ran out.
abbrev pub IsEntryAnswered : {I A H : Type 0} → Hearing I A → (H → ℕ → Heard → Sent → H → A
    → Type 0) → A
    → ℕ → Subject I → A → Sent → H → H → Type 0
IsEntryAnswered h told memory c (whole inquiry close) answer sent before after =
    (request : Request) × (inquiry ≡ h.wants request) × (close ≡ request.close)
    × told before c (HeardWhole request) sent after answer
IsEntryAnswered h told memory c (refused status) answer sent before after =
    told before c (HeardRefused status) sent after answer
IsEntryAnswered h told memory c broken answer sent before after = (after ≡ before) × (answer
    ≡ memory)
    × (sent ≡ fixed_500)

-- The entries agree with the replies that were put out: one reply for each entry, in order, with
-- the number of its connection.
abbrev pub AreEntriesAnswered : {I A H : Type 0} → Hearing I A → (H → ℕ → Heard → Sent → H → A
    → Type 0)
    → A → H → List (Entry I A) → List HubOut → H → Type 0
AreEntriesAnswered h told memory before [] outs after = (outs ≡ []) × (after ≡ before)
AreEntriesAnswered {H = H} h told memory before (entry ∷ log) outs after =
    (c : ℕ) × (sent : Sent) × (rest : List HubOut) × (between : H) × (entry.source ≡ connection c)
    × (outs ≡ Reply c sent ∷ rest)
    × IsEntryAnswered h told memory c entry.subject entry.answer sent before between
    × AreEntriesAnswered h told memory between log rest after

-- What is sent for a request agrees with the answer: it closes the connection exactly if the answer
-- does.
abbrev pub AgreesSent : {I A : Type 0} → Hearing I A → Heard → Sent → A → Type 0
AgreesSent h (HeardWhole request) sent answer = sent_closes sent ≡ h.ends answer
AgreesSent h (HeardRefused status) sent answer = Unit {0}

-- Memory ran out at a `Begin`. This is the only event that a hub may lose.
abbrev pub IsLost : Event → Result (Unit {0}) HubFault → Type 0
IsLost (Ask viewer method path query body) result = ⊥
IsLost (Begin c) result = result ≡ Err Memory
IsLost (Piece c bytes) result = ⊥
IsLost (Finish c) result = ⊥

-- What is put out after an event, until `next` returns none, is what the definition brings.
pub record IsBrought {I A H : Type 0} (h : Hearing I A) (told : H → ℕ → Heard → Sent → H → A
    → Type 0) (memory : A) (n : ℕ) (event : Event)
    (known : Connections I) (outs : List HubOut) (new : HubSeen) (before after : H) : Type 0 where
  pub mine : List (Entry I A)
  pub brought : IsBroughtBy h n event known mine
  pub replies : List HubOut
  pub answered : AreEntriesAnswered h told memory before mine replies after
  pub put : outs ≡ replies ++ closings event known (after_both h event mine known)
  pub like : AreLike h new.channels (after_both h event mine known)
  pub idle : new.turn ≡ Idle

-- What some calls of `next` put out after an event is the beginning of what the definition brings.
-- If they put out that a connection is closed, it is all.
pub record IsServedInPart {I A H : Type 0} (h : Hearing I A) (told : H → ℕ → Heard → Sent → H → A
    → Type 0) (memory : A) (n : ℕ) (event : Event)
    (known : Connections I) (outs : List HubOut) (before after : H) : Type 0 where
  pub mine : List (Entry I A)
  pub replies : List HubOut
  pub begun : IsBegunBy h n event known mine
  pub answered : AreEntriesAnswered h told memory before mine replies after
  pub put : (outs ≡ replies) ⊎ (IsBroughtBy h n event known mine
      × (outs ≡ replies ++ closings event known (after_both h event mine known)))

-- Events one after another. `step` takes each of them, and then `next` is called until it returns
-- none.
abbrev pub RunsHub : {H : Type 0} → (List ℕ → Taken → Type 0) → (H → ℕ → Heard → Sent → H → Type 0)
    → HubSeen → List Event → List HubOut → HubSeen → H → H → Type 0
RunsHub reads handles hub [] outs new before after = (outs ≡ []) × (new ≡ hub) × (after ≡ before)
RunsHub {H = H} reads handles hub (event ∷ events) outs new before after =
    (result : Result (Unit {0}) HubFault) × (stepped : HubSeen) × (later : HubSeen)
    × (mine : List HubOut) × (rest : List HubOut) × (between : H)
    × Steps hub event result stepped × (IsLost event result → ⊥)
    × IsEmptied reads handles stepped mine later before between
    × (outs ≡ mine ++ rest) × RunsHub reads handles later events rest new between after

-- The events, numbered from n, bring the log, and this was put out for it.
abbrev pub AreServed : {I A H : Type 0} → Hearing I A → (H → ℕ → Heard → Sent → H → A → Type 0) → A
    → Connections I → ℕ → List Event → List (Entry I A) → List HubOut → H → H → Type 0
AreServed h told memory known n [] log outs before after = (log ≡ []) × (outs ≡ [])
    × (after ≡ before)
AreServed {I = I} {A = A} {H = H} h told memory known n (event ∷ events) log outs before after =
    (mine : List (Entry I A)) × (others : List (Entry I A)) × (replies : List HubOut)
    × (rest : List HubOut) × (between : H)
    × (log ≡ mine ++ others)
    × (outs ≡ (replies ++ closings event known (after_both h event mine known)) ++ rest)
    × IsBroughtBy h n event known mine × AreEntriesAnswered h told memory before mine replies
    between
    × AreServed h told memory (after_both h event mine known) (n + 1) events others rest between
    after

-- The request of an `ask` line, for the plain hearing: a request is understood as itself, and its
-- answer is what is sent.
abbrev pub asked_request : Option ℕ → List ℕ → List ℕ → List ℕ → List ℕ → Request
asked_request viewer method path query body = record {
  method = method;
  path = path;
  query = query;
  body = body;
  token = None;
  close = false;
}

abbrev pub plain_hearing : Hearing Request Sent
plain_hearing = record {
  reads = IsTaken;
  wants = λ request. request;
  asks = asked_request;
  ends = sent_closes;
}

abbrev pub sends : {H : Type 0} → (H → ℕ → Heard → Sent → H → Type 0) → H → ℕ → Heard → Sent → H
    → Sent → Type 0
sends handles before c heard sent after answer = handles before c heard sent after × (answer ≡ sent)
