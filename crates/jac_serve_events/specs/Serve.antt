-- What serving an events file writes to the output and the audit.
use Rattle.std.specs.Prelude.{◌≡◌, ℕ, ◌+◌, ◌||◌, ◌⊎◌, Bool, length, true, false, is_some, decimal, Result, Ok, Err, Option, Some, None, List, [], ◌∷◌, ◌++◌, ⊤}
use Rattle.std.specs.List.{flat_map}
use Rattle.jac_events.specs.declared.event.Event.{Event}
use Rattle.jac_http.specs.Requests.{IsTaken}
use Rattle.jac_http.specs.Replies.{reply_bytes, status_of_fixed}
use Rattle.jac_hub.specs.declared.handler.Heard.{Heard}
use Rattle.jac_hub.specs.declared.handler.Heard.TheVariants.{Whole, Refused}
use Rattle.jac_hub.specs.declared.hub.HubFault.{HubFault}
use Rattle.jac_hub.specs.declared.hub.HubFault.TheVariants as faults
use Rattle.jac_hub.specs.declared.hub.HubOut.{HubOut}
use Rattle.jac_hub.specs.declared.hub.HubOut.TheVariants.{Reply, Closed}
use Rattle.jac_hub.specs.declared.hub.Turn.TheVariants.{Idle}
use Rattle.jac_hub.specs.declared.sent.Sent.{Sent}
use Rattle.jac_hub.specs.declared.sent.Sent.TheVariants.{Made, Still}
use Rattle.jac_hub.specs.Channel.{sent_closes}
use Rattle.jac_hub.specs.Hearing.{asked, connection, whole, refused}
use Rattle.jac_hub.specs.Heard.{Connections, no_connections, IsBroughtBy, IsBegunBy, after_both}
use Rattle.jac_hub.specs.Hub.{HubSeen, Steps}
use Rattle.jac_hub.specs.Served.{AreLike, IsEmptied, IsGiven, IsLost, closings}
use Rattle.jac_replies.specs.declared.answer.Answer.{Answer}
use Rattle.jac_replies.specs.declared.answer.Ask.{Ask}
use Rattle.jac_replies.specs.declared.reply.Spelling.{Spelling}
use Rattle.jac_replies.specs.declared.reply.Spelling.TheVariants as spellings
use Rattle.jac_replies.specs.Failed.{status_of_stop}
use Rattle.jac_replies.specs.Refused.{refusal}
use Rattle.jac_replies.specs.Spelled.{reply_text, spelled_bytes, closed_text, audit_rest, audit_text}
use Rattle.jac_serve_events.specs.declared.dispatcher.AskOutcome.{AskOutcome}
use Rattle.jac_serve_events.specs.declared.dispatcher.AskOutcome.TheVariants.{Answered, Unanswered}
use Rattle.jac_serve_events.specs.declared.outputs.EventOutcome.{EventOutcome}
use Rattle.jac_serve_events.specs.declared.outputs.WriteFailure.{WriteFailure}
use Rattle.jac_serve_events.specs.declared.outputs.FailedSink.{FailedSink}
use Rattle.jac_serve_events.specs.declared.outputs.FailedSink.TheVariants as losses
use Rattle.jac_serve_events.specs.declared.serve.EventFault.{EventFault}
use Rattle.jac_serve_events.specs.declared.serve.EventFault.TheVariants as event_faults
use Rattle.jac_serve_events.specs.declared.serve.ReplayError.{ReplayError}
use Rattle.jac_serve_events.specs.declared.serve.ReplayError.TheVariants as stops
use Rattle.jac_serve_events.specs.AnswerSpec.{LogSubject, LogEntry, is_failure, AnswerSpec, hearing, IsHeardBy}
use Rattle.jac_serve_events.specs.RunSeen.{RunSeen, IsStill}
use Rattle.jac_serve_events.specs.Log.{Brings, reply_on, reply_to, entry_on, replies_on, replies_text, closing_text, viewer_of_subject, audit_line, audit_lines, audited_from}
use Rattle.jac_serve_events.specs.Outside.{Span, span, Sinks, IsFront, HasFaulted, IsLostOn, FaultedAt, IsLostAt}
use Rattle.jac_serve_events.specs.Script.{Script, script_of, event_fault_of}

-- The request of an `ask` line was answered with this reply and audit line, which is given without
-- its number. Or it wasn't answered, for this reason.
abbrev pub IsAsked : AnswerSpec → Span RunSeen → Ask → AskOutcome → Type 0
IsAsked x k ask (Answered reply audit) =
    (answer : Answer) × x.entry k (whole ask false) answer
    × (reply ≡ reply_to asked (whole ask false) answer)
    × (audit ≡ audit_rest answer.status ask.viewer answer.shown answer.consulted)
IsAsked x k ask (Unanswered stop viewer) = x.entry k (whole ask false)
    (refusal (status_of_stop stop) None) × (viewer ≡ ask.viewer)

-- The reply to the request of an `ask` line. Below, the audit line of the k-th reply.
abbrev pub asked_line : List ℕ → AskOutcome → List ℕ
asked_line method (Answered reply audit) = reply
asked_line method (Unanswered stop viewer) = reply_text method (status_of_stop stop) None
    (refusal (status_of_stop stop) None).body

abbrev pub asked_audit : ℕ → AskOutcome → List ℕ
asked_audit k (Answered reply audit) = decimal k ++ audit
asked_audit k (Unanswered stop viewer) = audit_text k (status_of_stop stop) viewer None None

abbrev pub subject_of : AnswerSpec → Heard → LogSubject
subject_of x (Whole request) = whole (x.wants request) request.close
subject_of x (Refused status) = refused status

-- What is put for what was sent on a connection.
abbrev pub sent_on : Spelling → ℕ → Sent → List ℕ
sent_on spelling c (Made line audit close) = line
sent_on spelling c (Still status head viewer) =
    spelled_bytes spelling c (reply_bytes (status_of_fixed status) None None [] false head true)

-- The audit line for it, if it is the k-th reply.
abbrev pub sent_audit : ℕ → Sent → List ℕ
sent_audit k (Made line audit close) = decimal k ++ audit
sent_audit k (Still status head viewer) = audit_text k (status_of_fixed status) viewer None None

-- What was heard on a connection has this answer, and what was sent is its reply.
pub record IsHandled (spelling : Spelling) (x : AnswerSpec) (before : RunSeen) (c : ℕ)
    (heard : Heard) (sent : Sent) (after : RunSeen) (answer : Answer) : Type 0 where
  pub line : sent_on spelling c sent ≡ reply_on spelling (connection c) (subject_of x heard) answer
  pub audit : (k : ℕ) → sent_audit k sent ≡ audit_text k answer.status
      (viewer_of_subject (subject_of x heard)) answer.shown answer.consulted
  pub closing : sent_closes sent ≡ is_failure answer
  pub entry : x.entry (span before after) (subject_of x heard) answer

abbrev pub Handles : Spelling → AnswerSpec → RunSeen → ℕ → Heard → Sent → RunSeen → Type 0
Handles spelling x before c heard sent after = (answer : Answer)
    × IsHandled spelling x before c heard sent after answer

-- That a connection was closed is put in a text only.
abbrev pub closed_on : Spelling → ℕ → List ℕ
closed_on spellings.Quoted c = closed_text c
closed_on spellings.Raw c = []

-- What is put for what a hub gives.
abbrev pub out_on : Spelling → HubOut → List ℕ
out_on spelling (Reply c sent) = sent_on spelling c sent
out_on spelling (Closed c) = closed_on spelling c

abbrev pub outs_on : Spelling → List HubOut → List ℕ
outs_on spelling outs = flat_map (out_on spelling) outs

-- The number of replies among them.
abbrev pub replies_in : List HubOut → ℕ
replies_in [] = 0
replies_in (Reply c sent ∷ outs) = 1 + replies_in outs
replies_in (Closed c ∷ outs) = replies_in outs

-- The audit lines of what a hub gives. The first reply is the k-th.
abbrev pub outs_audited : ℕ → List HubOut → List ℕ
outs_audited k [] = []
outs_audited k (Reply c sent ∷ outs) = sent_audit k sent ++ outs_audited (k + 1) outs
outs_audited k (Closed c ∷ outs) = outs_audited k outs

abbrev pub is_closed_out : HubOut → Bool
is_closed_out (Reply c sent) = false
is_closed_out (Closed c) = true

-- One of them says that the connection was closed.
abbrev pub has_closed : List HubOut → Bool
has_closed [] = false
has_closed (given ∷ outs) = is_closed_out given || has_closed outs

-- What was to be put for an output was lost: the k-th reply, or, in a text, the line that says that
-- the connection was closed.
abbrev pub IsOutLost : Spelling → ℕ → FailedSink → HubOut → Sinks → List ℕ → List ℕ → Type 0
IsOutLost spelling k lost (Reply c sent) s out audit =
    IsLostAt lost (sent_on spelling c sent) (sent_audit k sent) s out audit
IsOutLost spelling k lost (Closed c) s out audit =
    (spelling ≡ spellings.Quoted) × (lost ≡ losses.Out) × IsFront out (closed_on spelling c)
    × (audit ≡ []) × HasFaulted s.out

-- One output is put, after what was put so far.
abbrev pub PutsOut : Spelling → EventOutcome → HubOut → Result EventOutcome FailedSink → Sinks →
    List ℕ → List ℕ
    → Type 0
PutsOut spelling so_far given (Ok more) s out audit =
    (more.count ≡ so_far.count + replies_in (given ∷ []))
    × (more.closed ≡ (so_far.closed || is_closed_out given))
    × (out ≡ out_on spelling given) × (audit ≡ outs_audited (so_far.count + 1) (given ∷ []))
PutsOut spelling so_far given (Err lost) s out audit =
    IsOutLost spelling (so_far.count + 1) lost given s out audit

-- These outputs were put, after `served` replies.
pub record ArePutOut (spelling : Spelling) (served : ℕ) (brought : EventOutcome)
    (outs : List HubOut)
    (out audit : List ℕ) : Type 0 where
  pub count_is : brought.count ≡ served + replies_in outs
  pub closed_is : brought.closed ≡ has_closed outs
  pub out_text : out ≡ outs_on spelling outs
  pub audit_text : audit ≡ outs_audited (served + 1) outs

-- What a hub gave so far was put.
pub record PutsSoFar (spelling : Spelling) (x : AnswerSpec) (hub now : HubSeen) (k : Span RunSeen)
    (served : ℕ) (so_far : EventOutcome) (out audit : List ℕ) : Type 0 where
  pub outs : List HubOut
  pub given : IsGiven IsTaken (Handles spelling x) hub outs now k.before k.after
  pub put : ArePutOut spelling served so_far outs out audit

-- All that a hub gave was put.
pub record PutsAll (spelling : Spelling) (x : AnswerSpec) (hub new : HubSeen) (k : Span RunSeen)
    (served : ℕ) (brought : EventOutcome) (out audit : List ℕ) : Type 0 where
  pub outs : List HubOut
  pub emptied : IsEmptied IsTaken (Handles spelling x) hub outs new k.before k.after
  pub put : ArePutOut spelling served brought outs out audit

-- Some of what a hub gave was put. Then one output was lost, and nothing more was asked of the hub.
pub record PutsSome (spelling : Spelling) (x : AnswerSpec) (hub : HubSeen) (k : Span RunSeen)
    (served : ℕ) (cut : WriteFailure) (s : Sinks) (out audit : List ℕ) : Type 0 where
  pub outs : List HubOut
  pub last : HubOut
  pub left : HubSeen
  pub out_torn : List ℕ
  pub audit_torn : List ℕ
  pub given : IsGiven IsTaken (Handles spelling x) hub (outs ++ last ∷ []) left k.before k.after
  pub torn : IsOutLost spelling cut.count cut.lost last s out_torn audit_torn
  pub count_is : cut.count ≡ served + replies_in outs + 1
  pub out_text : out ≡ outs_on spelling outs ++ out_torn
  pub audit_text : audit ≡ outs_audited (served + 1) outs ++ audit_torn

abbrev pub PutsOuts : Spelling → AnswerSpec → HubSeen → HubSeen → Span RunSeen → ℕ
    → Result EventOutcome WriteFailure → Sinks → List ℕ → List ℕ → Type 0
PutsOuts spelling x hub new k served (Ok brought) s out audit =
    PutsAll spelling x hub new k served brought out audit
PutsOuts spelling x hub new k served (Err cut) s out audit =
    PutsSome spelling x hub k served cut s out audit

abbrev pub event_fault_by : ℕ → HubFault → Option EventFault
event_fault_by line (faults.NotOpen c) = Some (event_faults.NotOpen line c)
event_fault_by line (faults.AlreadyOpen c) = Some (event_faults.AlreadyOpen line c)
event_fault_by line faults.Memory = None

-- A hub took the event of this line, or why it didn't.
abbrev pub TakesEvent : ℕ → HubSeen → Event → Result (Unit {0}) ReplayError → HubSeen → Type 0
TakesEvent line hub event (Ok done) new =
    (taken : Result (Unit {0}) HubFault) × Steps hub event taken new × (IsLost event taken → ⊥)
    × ((taken ≡ Ok tt) ⊎ (taken ≡ Err faults.Memory))
TakesEvent line hub event (Err (stops.Refused event_fault)) new = (fault : HubFault)
    × Steps hub event (Err fault) new × (event_fault_by line fault ≡ Some event_fault)
TakesEvent line hub event (Err stops.Memory) new = ⊤
TakesEvent line hub event (Err stops.Write) new = ⊥

-- The connections that have begun.
abbrev pub is_connection_open : Connections Ask → ℕ → Bool
is_connection_open known c = is_some (known c)

-- The connections of a hub between two events.
pub record IsFollowing (x : AnswerSpec) (hub : HubSeen) : Type 0 where
  pub known : Connections Ask
  pub like : AreLike (hearing x) hub.channels known

-- The n-th event was served whole, given the connections before it.
pub record IsEventServed (spelling : Spelling) (x : AnswerSpec) (new : HubSeen) (k : Span RunSeen)
    (served : ℕ) (brought : EventOutcome) (n : ℕ) (event : Event)
    (known : Connections Ask) (out audit : List ℕ) : Type 0 where
  pub mine : List LogEntry
  pub brought_by : IsBroughtBy (hearing x) n event known mine
  pub entries : x.entries k mine
  pub count_is : brought.count ≡ served + length mine
  pub closed_is : brought.closed ≡ has_closed (closings event known (after_both (hearing x) event
      mine known))
  pub like : AreLike (hearing x) new.channels (after_both (hearing x) event mine known)
  pub idle : new.turn ≡ Idle
  pub out_text : out ≡ replies_on spelling mine ++ outs_on spelling (closings event known
      (after_both (hearing x) event mine known))
  pub audit_text : audit ≡ audited_from (served + 1) mine

-- All was put before the reply to the last of these entries, which was lost.
pub record IsLastLost (spelling : Spelling) (lost : FailedSink) (first : ℕ) (log : List LogEntry)
    (out audit : List ℕ) : Type 0 where
  pub whole_ones : List LogEntry
  pub entry : LogEntry
  pub out_torn : List ℕ
  pub audit_torn : List ℕ
  pub parts : log ≡ whole_ones ++ entry ∷ []
  pub torn : IsLostOn lost (entry_on spelling entry)
      (audit_line (first + length whole_ones + 1) entry) out_torn audit_torn
  pub out_text : out ≡ replies_on spelling whole_ones ++ out_torn
  pub audit_text : audit ≡ audited_from (first + 1) whole_ones ++ audit_torn

-- Of the lines of the last of these entries, only a prefix was put. If the audit failed, this is a
-- prefix of its line. If the sink of replies failed, the audit line was put whole, and a prefix of
-- the reply.
abbrev pub IsEntryTorn : ℕ → List LogEntry → Sinks → List ℕ → List ℕ → Type 0
IsEntryTorn served mine s out audit = (lost : FailedSink)
    × IsLastLost spellings.Quoted lost served mine out audit × FaultedAt lost s

-- The event has a line that says that its connection was closed. Only a prefix of it was put,
-- because the sink of replies failed.
pub record IsClosingTorn (x : AnswerSpec) (served n : ℕ) (event : Event) (known : Connections Ask)
    (mine : List LogEntry) (s : Sinks) (out audit : List ℕ) : Type 0 where
  pub out_torn : List ℕ
  pub fault : HasFaulted s.out
  pub some : ¬ (closing_text event known (after_both (hearing x) event mine known) ≡ [])
  pub brought : IsBroughtBy (hearing x) n event known mine
  pub torn : IsFront out_torn (closing_text event known (after_both (hearing x) event mine known))
  pub out_text : out ≡ replies_text mine ++ out_torn
  pub audit_text : audit ≡ audited_from (served + 1) mine

-- The first entries of the n-th event were answered, and a put failed: for the last of them, or, in
-- a text, for the line that says that the connection was closed.
pub record IsEventCut (spelling : Spelling) (x : AnswerSpec) (k : Span RunSeen) (served : ℕ)
    (cut : WriteFailure) (n : ℕ) (event : Event)
    (known : Connections Ask) (s : Sinks) (out audit : List ℕ) : Type 0 where
  pub mine : List LogEntry
  pub begun : IsBegunBy (hearing x) n event known mine
  pub entries : x.entries k mine
  pub fault : FaultedAt cut.lost s
  pub torn : (IsLastLost spelling cut.lost served mine out audit
      × (cut.count ≡ served + length mine))
      ⊎ ((spelling ≡ spellings.Quoted) × IsClosingTorn x served n event known mine s out audit)

-- An event, which is on this line, is served, for any connections with which the hub agrees.
abbrev pub AnswersEvent : AnswerSpec → HubSeen → HubSeen → Span RunSeen → ℕ → ℕ → Event
    → Result ℕ ReplayError → Sinks → List ℕ → List ℕ → Type 0
AnswersEvent x hub new k served line event (Ok count) s out audit =
    (n : ℕ) (known : Connections Ask) → AreLike (hearing x) hub.channels known
    → (event_fault_of line (is_connection_open known) event ≡ None) × (closed : Bool)
    × IsEventServed spellings.Quoted x new k served (record { count = count; closed = closed }) n
    event known out audit
AnswersEvent x hub new k served line event (Err (stops.Refused event_fault)) s out audit =
    ((known : Connections Ask) → AreLike (hearing x) hub.channels known
    → event_fault_of line (is_connection_open known) event ≡ Some event_fault)
    × (out ≡ []) × (audit ≡ []) × IsStill k
AnswersEvent x hub new k served line event (Err stops.Memory) s out audit =
    (out ≡ []) × (audit ≡ []) × IsStill k
AnswersEvent x hub new k served line event (Err stops.Write) s out audit =
    (n : ℕ) (known : Connections Ask) → AreLike (hearing x) hub.channels known
    → (event_fault_of line (is_connection_open known) event ≡ None) × (cut : WriteFailure)
    × IsEventCut spellings.Quoted x k served cut n event known s out audit

-- A line is served. It is empty, describes an event, or has no form.
abbrev pub AnswersLine : AnswerSpec → HubSeen → HubSeen → Span RunSeen → ℕ → ℕ
    → Option (Option Event) → Result ℕ ReplayError → Sinks → List ℕ → List ℕ → Type 0
AnswersLine x hub new k served line written (Err stops.Memory) s out audit =
    (out ≡ []) × (audit ≡ []) × IsStill k
AnswersLine x hub new k served line None result s out audit =
    (result ≡ Err (stops.Refused (event_faults.NoForm line))) × (out ≡ []) × (audit ≡ []) × IsStill
    k
AnswersLine x hub new k served line (Some None) result s out audit =
    (result ≡ Ok served) × (new ≡ hub) × (out ≡ []) × (audit ≡ []) × IsStill k
AnswersLine x hub new k served line (Some (Some event)) result s out audit =
    AnswersEvent x hub new k served line event result s out audit

-- These events were served, or the first of them if serving may stop early. The log has what they
-- bring, and its entries were answered.
pub record IsServed (early : Bool) (x : AnswerSpec) (k : Span RunSeen) (events : List Event)
    (log : List LogEntry) : Type 0 where
  pub subjects : IsHeardBy early (hearing x) events log
  pub entries : x.entries k log

-- Their lines were put whole: the text is that of the events that were served.
pub record PutsServed (early : Bool) (x : AnswerSpec) (k : Span RunSeen) (script : Script)
    (out audit : List ℕ) : Type 0 where
  pub events : List Event
  pub unserved : List Event
  pub log : List LogEntry
  pub later : Connections Ask
  pub parts : script.events ≡ events ++ unserved
  pub ended : early ≡ false → unserved ≡ []
  pub served : IsServed early x k script.events log
  pub out_text : Brings x no_connections 0 events log out later
  pub audit_text : audit ≡ audit_lines log

-- The first events were served, and of the lines of the next event only a prefix was put.
pub record PutsTorn (x : AnswerSpec) (k : Span RunSeen) (script : Script) (s : Sinks)
    (out audit : List ℕ) : Type 0 where
  pub events : List Event
  pub event : Event
  pub unserved : List Event
  pub log : List LogEntry
  pub mine : List LogEntry
  pub known : Connections Ask
  pub text : List ℕ
  pub out_more : List ℕ
  pub audit_more : List ℕ
  pub parts : script.events ≡ events ++ event ∷ unserved
  pub served : IsServed true x k script.events (log ++ mine)
  pub brought : Brings x no_connections 0 events log text known
  pub begun : IsBegunBy (hearing x) (length events) event known mine
  pub torn : IsEntryTorn (length log) mine s out_more audit_more
      ⊎ IsClosingTorn x (length log) (length events) event known mine s out_more audit_more
  pub out_text : out ≡ text ++ out_more
  pub audit_text : audit ≡ audit_lines log ++ audit_more

-- How serving the events of a file ends.
abbrev pub ServesAs : AnswerSpec → Span RunSeen → List ℕ → Result (Unit {0}) ReplayError → Sinks
    → List ℕ → List ℕ → Type 0
ServesAs x k bytes (Ok done) s out audit =
    ((script_of bytes).refused ≡ None) × PutsServed false x k (script_of bytes) out audit
ServesAs x k bytes (Err (stops.Refused event_fault)) s out audit =
    ((script_of bytes).refused ≡ Some event_fault) × PutsServed false x k (script_of bytes) out
    audit
ServesAs x k bytes (Err stops.Memory) s out audit = PutsServed true x k (script_of bytes) out audit
ServesAs x k bytes (Err stops.Write) s out audit = PutsTorn x k (script_of bytes) s out audit
