-- What a hub gives: the entries of a log and their lines.
use Rattle.std.proofs.Common.{◌≡◌, ◌∙◌, ap, sym, subst, refl, ℕ, ◌+◌, ◌&&◌, ◌||◌, not, Bool, true, false, None, Result, List, [], ◌∷◌, ◌++◌, length, append_assoc, append-nil, if◌then◌else◌, arith}
use Rattle.jac_serve_events.specs.RunSeen.{RunSeen}
use Rattle.jac_replies.specs.Refused.{refusal}
use Rattle.jac_replies.specs.declared.answer.Answer.{Answer}
use Rattle.jac_replies.specs.declared.answer.Ask.{Ask}
use Rattle.jac_events.specs.declared.event.Event.{Event}
use Rattle.jac_events.specs.declared.event.Event.TheVariants.{Ask as Asking, Begin, Piece, Finish}
use Rattle.jac_http.specs.Reading.{IsReading}
use Rattle.jac_http.specs.Requests.{IsTaken}
use Rattle.jac_hub.specs.declared.handler.Heard.{Heard}
use Rattle.jac_hub.specs.declared.handler.Heard.TheVariants.{Whole as HeardWhole, Refused as HeardRefused}
use Rattle.jac_hub.specs.declared.hub.HubFault.{HubFault}
use Rattle.jac_hub.specs.declared.hub.HubOut.{HubOut}
use Rattle.jac_hub.specs.declared.hub.HubOut.TheVariants.{Reply, Closed}
use Rattle.jac_hub.specs.declared.hub.Turn.TheVariants.{Idle}
use Rattle.jac_hub.specs.declared.sent.Sent.{Sent}
use Rattle.jac_hub.specs.Hearing.{Source, connection, whole, refused, broken}
use Rattle.jac_hub.specs.Heard.{Connections, after_both}
use Rattle.jac_hub.specs.Hub.{HubSeen, Steps}
use Rattle.jac_hub.specs.Served.{AreLike, AreEntriesAnswered, IsEntryAnswered, AgreesSent, IsLost, is_shut, closing, closings}
use Rattle.jac_hub.proofs.Following.{Tells}
use Rattle.jac_hub.proofs.Events.{event-served}
use Rattle.jac_replies.specs.declared.reply.Spelling.{Spelling}
use Rattle.jac_replies.specs.declared.reply.Spelling.TheVariants as spellings
use Rattle.jac_serve_events.specs.AnswerSpec.{LogSubject, LogEntry, hearing, AnswerSpec, IsAnswerSpec}
use Rattle.jac_serve_events.specs.declared.outputs.EventOutcome.{EventOutcome}
use Rattle.jac_serve_events.specs.declared.outputs.FailedSink.{FailedSink}
use Rattle.jac_serve_events.specs.Log.{reply_on, entry_on, replies_on, closing_text, audit_line, audited_from, viewer_of_subject}
use Rattle.jac_replies.specs.Spelled.{closed_text, audit_text}
use Rattle.jac_serve_events.specs.Outside.{Span, span, Sinks, IsLostOn, IsLostAt}
use Rattle.jac_serve_events.specs.Serve.{IsHandled, Handles, sent_on, sent_audit, out_on, outs_on, outs_audited, replies_in, is_closed_out, has_closed, IsOutLost, PutsAll, IsEventServed}

agrees : (spelling : Spelling) (x : AnswerSpec) (before after : RunSeen) (c : ℕ) (heard : Heard) (sent : Sent) (answer : Answer)
    → IsHandled spelling x before c heard sent after answer → AgreesSent (hearing x) heard sent answer
agrees spelling x before after c (HeardWhole request) sent answer h = h.closing
agrees spelling x before after c (HeardRefused status) sent answer h = tt

-- What is handled has an answer that agrees with it.
pub handled-tells : (spelling : Spelling) (x : AnswerSpec) → Tells (hearing x) (Handles spelling x) (IsHandled spelling x)
handled-tells spelling x = λ before after c heard sent h. (h.0, h.1, agrees spelling x before after c heard sent h.0 h.1)

-- What is put for entries, and the state that they leave.
pub record AreLines (spelling : Spelling) (x : AnswerSpec) (k : Span RunSeen) (mine : List LogEntry) (outs : List HubOut) : Type 0 where
  pub entries : x.entries k mine
  pub text : outs_on spelling outs ≡ replies_on spelling mine
  pub audited : (n : ℕ) → outs_audited n outs ≡ audited_from n mine
  pub replies : replies_in outs ≡ length mine

-- The reply to one subject of a connection.
pub record IsLine (spelling : Spelling) (x : AnswerSpec) (c : ℕ) (k : Span RunSeen) (subject : LogSubject) (answer : Answer) (sent : Sent) : Type 0 where
  pub one : x.entry k subject answer
  pub line : sent_on spelling c sent ≡ reply_on spelling (connection c) subject answer
  pub audit : (n : ℕ) → sent_audit n sent ≡ audit_text n answer.status (viewer_of_subject subject) answer.shown answer.consulted

line_of : (spelling : Spelling) (x : AnswerSpec) (lawful : IsAnswerSpec x) (c : ℕ) (subject : LogSubject) (answer : Answer) (sent : Sent) (before between : RunSeen)
    → x.ready before
    → IsEntryAnswered (hearing x) (IsHandled spelling x) (refusal 500 None) c subject answer sent before between
    → IsLine spelling x c (span before between) subject answer sent
line_of spelling x lawful c (whole ask close) answer sent before between start (request, is, closes, h) =
    subst (λ (s : LogSubject). IsLine spelling x c (span before between) s answer sent) (λ i. whole (sym is i) (sym closes i))
    (record { one = h.entry; line = h.line; audit = h.audit })
line_of spelling x lawful c (refused status) answer sent before between start h = record { one = h.entry; line = h.line; audit = h.audit }
line_of spelling x lawful c broken answer sent before between start (same, is, put) =
    subst (λ (k : RunSeen). IsLine spelling x c (span before k) broken answer sent) (sym same)
    (subst (λ (a : Answer). IsLine spelling x c (span before before) broken a sent) (sym is)
    (subst (λ (s : Sent). IsLine spelling x c (span before before) broken (refusal 500 None) s) (sym put)
    (record { one = lawful.wanting before start; line = refl; audit = λ n. refl })))

lines_none : (spelling : Spelling) (x : AnswerSpec) (lawful : IsAnswerSpec x) (k : RunSeen) → x.ready k → AreLines spelling x (span k k) [] []
lines_none spelling x lawful k start = record { entries = lawful.none k start; text = refl; audited = λ n. refl; replies = refl }

lines_more : (spelling : Spelling) (x : AnswerSpec) (lawful : IsAnswerSpec x) (c : ℕ) (entry : LogEntry) (sent : Sent) (mine : List LogEntry) (rest : List HubOut) (before between after : RunSeen)
    → entry.source ≡ connection c → IsLine spelling x c (span before between) entry.subject entry.answer sent → AreLines spelling x (span between after) mine rest
    → AreLines spelling x (span before after) (entry ∷ mine) (Reply c sent ∷ rest)
lines_more spelling x lawful c entry sent mine rest before between after is line more =
    let same : sent_on spelling c sent ≡ entry_on spelling entry = line.line ∙ ap (λ (s : Source). reply_on spelling s entry.subject entry.answer) (sym is) in
    record {
      entries = lawful.joined before between after (entry ∷ []) mine (lawful.one before between entry line.one) more.entries;
      text = ap (λ (t : List ℕ). t ++ outs_on spelling rest) same ∙ ap (λ (t : List ℕ). entry_on spelling entry ++ t) more.text;
      audited = λ n.
          ap (λ (t : List ℕ). t ++ outs_audited (n + 1) rest) (line.audit n) ∙ ap (λ (t : List ℕ). audit_line n entry ++ t) (more.audited (n + 1));
      replies = let r = more.replies in omega (arith, r);
    }

-- The entries of an event agree with the replies that were put out for them.
pub lines_all : (spelling : Spelling) (x : AnswerSpec) (lawful : IsAnswerSpec x) (mine : List LogEntry) (outs : List HubOut) (before after : RunSeen)
    → x.ready before
    → AreEntriesAnswered (hearing x) (IsHandled spelling x) (refusal 500 None) before mine outs after → AreLines spelling x (span before after) mine outs
lines_all spelling x lawful [] outs before after start (none, same) =
    subst (λ (k : RunSeen). AreLines spelling x (span before k) [] outs) (sym same)
    (subst (λ (os : List HubOut). AreLines spelling x (span before before) [] os) (sym none) (lines_none spelling x lawful before start))
lines_all spelling x lawful (entry ∷ mine) outs before after start (c, sent, rest, between, is, parts, answered, more) =
    let line = line_of spelling x lawful c entry.subject entry.answer sent before between start answered in
    subst (λ (os : List HubOut). AreLines spelling x (span before after) (entry ∷ mine) os) (sym parts)
    (lines_more spelling x lawful c entry sent mine rest before between after is line
    (lines_all spelling x lawful mine rest between after (lawful.goes_on before between _ _ line.one) more))

pub outs_on-append : (spelling : Spelling) (xs ys : List HubOut) → outs_on spelling (xs ++ ys) ≡ outs_on spelling xs ++ outs_on spelling ys
outs_on-append spelling [] ys = refl
outs_on-append spelling (x ∷ xs) ys =
    ap (λ (rest : List ℕ). out_on spelling x ++ rest) (outs_on-append spelling xs ys) ∙ sym (append_assoc (out_on spelling x) (outs_on spelling xs) (outs_on spelling ys))

pub outs_audited-append : (k : ℕ) (xs ys : List HubOut) → outs_audited k (xs ++ ys) ≡ outs_audited k xs ++ outs_audited (k + replies_in xs) ys
outs_audited-append k [] ys = ap (λ (n : ℕ). outs_audited n ys) (omega arith)
outs_audited-append k (Reply c sent ∷ xs) ys =
    ap (λ (rest : List ℕ). sent_audit k sent ++ rest)
    (outs_audited-append (k + 1) xs ys ∙ ap (λ (n : ℕ). outs_audited (k + 1) xs ++ outs_audited n ys) (omega arith))
    ∙ sym (append_assoc (sent_audit k sent) (outs_audited (k + 1) xs) (outs_audited (k + replies_in (Reply c sent ∷ xs)) ys))
outs_audited-append k (Closed c ∷ xs) ys = outs_audited-append k xs ys

pub replies_in-append : (xs ys : List HubOut) → replies_in (xs ++ ys) ≡ replies_in xs + replies_in ys
replies_in-append [] ys = omega arith
replies_in-append (Reply c sent ∷ xs) ys = omega (arith, replies_in-append xs ys)
replies_in-append (Closed c ∷ xs) ys = replies_in-append xs ys

-- The line that says that a connection was closed is in a text, and no other line is.
closed_outs : (c : ℕ) (closed : Bool) → outs_on spellings.Quoted (closing c closed) ≡ (if closed then closed_text c else [])
closed_outs c true = append-nil (closed_text c)
closed_outs c false = refl

pub closings_text : (event : Event) (before after : Connections Ask) → outs_on spellings.Quoted (closings event before after) ≡ closing_text event before after
closings_text (Asking viewer method path query body) before after = refl
closings_text (Begin c) before after = refl
closings_text (Piece c bytes) before after = closed_outs c (not (is_shut (before c)) && is_shut (after c))
closings_text (Finish c) before after = refl

closed_silent : (c : ℕ) (closed : Bool) (k : ℕ) → (outs_audited k (closing c closed) ≡ []) × (replies_in (closing c closed) ≡ 0)
closed_silent c true k = (refl, refl)
closed_silent c false k = (refl, refl)

closings_silent : (event : Event) (before after : Connections Ask) (k : ℕ) → (outs_audited k (closings event before after) ≡ []) × (replies_in (closings event before after) ≡ 0)
closings_silent (Asking viewer method path query body) before after k = (refl, refl)
closings_silent (Begin c) before after k = (refl, refl)
closings_silent (Piece c bytes) before after k = closed_silent c (not (is_shut (before c)) && is_shut (after c)) k
closings_silent (Finish c) before after k = (refl, refl)

or_assoc : (a b c : Bool) → ((a || b) || c) ≡ (a || (b || c))
or_assoc true b c = refl
or_assoc false b c = refl

pub has_closed-append : (xs ys : List HubOut) → has_closed (xs ++ ys) ≡ (has_closed xs || has_closed ys)
has_closed-append [] ys = refl
has_closed-append (x ∷ xs) ys = ap (λ (b : Bool). is_closed_out x || b) (has_closed-append xs ys) ∙ sym (or_assoc (is_closed_out x) (has_closed xs) (has_closed ys))

-- The replies to entries don't say that a connection was closed.
answered_open : (spelling : Spelling) (x : AnswerSpec) (mine : List LogEntry) (outs : List HubOut) (before after : RunSeen)
    → AreEntriesAnswered (hearing x) (IsHandled spelling x) (refusal 500 None) before mine outs after → has_closed outs ≡ false
answered_open spelling x [] outs before after (none, same) = ap has_closed none
answered_open spelling x (entry ∷ mine) outs before after (c, sent, rest, between, is, parts, answered, more) =
    ap has_closed parts ∙ answered_open spelling x mine rest between after more

right_none : (m : ℕ) → m + 0 ≡ m
right_none m = omega arith

-- If all that a hub gave for an event was put, the event was served.
pub event_whole : (spelling : Spelling) (x : AnswerSpec) (lawful : IsAnswerSpec x) → IsReading IsTaken → (n served : ℕ) (brought : EventOutcome) (event : Event) (known : Connections Ask) (taken : Result (Unit {0}) HubFault)
    (old stepped new : HubSeen) (a b : RunSeen) (out audit : List ℕ)
    → old.turn ≡ Idle → AreLike (hearing x) old.channels known → Steps old event taken stepped → (IsLost event taken → ⊥) → x.ready a
    → PutsAll spelling x stepped new (span a b) served brought out audit
    → IsEventServed spelling x new (span a b) served brought n event known out audit
event_whole spelling x lawful law n served brought event known taken old stepped new a b out audit idle like steps kept start p =
    let h = hearing x in
    let s = event-served h law (Handles spelling x) (IsHandled spelling x) (refusal 500 None) n (handled-tells spelling x)
    event known taken old stepped new p.outs a b idle like steps kept p.emptied in
    let later = after_both h event s.mine known in
    let last = closings event known later in
    let lines = lines_all spelling x lawful s.mine s.replies a b start s.answered in
    let silent = closings_silent event known later in
    record {
      mine = s.mine;
      brought_by = s.brought;
      entries = lines.entries;
      count_is =
          p.put.count_is
          ∙ ap (λ (m : ℕ). served + m)
          (ap replies_in s.put ∙ replies_in-append s.replies last ∙ ap (λ (m : ℕ). replies_in s.replies + m) (silent 0).1
          ∙ right_none (replies_in s.replies) ∙ lines.replies);
      closed_is =
          p.put.closed_is ∙ ap has_closed s.put ∙ has_closed-append s.replies last
          ∙ ap (λ (x : Bool). x || has_closed last) (answered_open spelling x s.mine s.replies a b s.answered);
      like = s.like;
      idle = s.idle;
      out_text =
          p.put.out_text ∙ ap (outs_on spelling) s.put ∙ outs_on-append spelling s.replies last
          ∙ ap (λ (t : List ℕ). t ++ outs_on spelling last) lines.text;
      audit_text =
          p.put.audit_text ∙ ap (outs_audited (served + 1)) s.put ∙ outs_audited-append (served + 1) s.replies last
          ∙ ap (λ (t : List ℕ). outs_audited (served + 1) s.replies ++ t) (silent (served + 1 + replies_in s.replies)).0
          ∙ append-nil (outs_audited (served + 1) s.replies) ∙ lines.audited (served + 1);
    }

no_entries : (mine : List LogEntry) → length mine ≡ 0 → mine ≡ []
no_entries [] e = refl
no_entries (entry ∷ mine) e = absurd cc

-- The last entry is that of the lost reply, and the lines of the others were put.
pub record IsCut (spelling : Spelling) (mine : List LogEntry) (outs : List HubOut) (last : HubOut) : Type 0 where
  pub whole_ones : List LogEntry
  pub entry : LogEntry
  pub parts : mine ≡ whole_ones ++ entry ∷ []
  pub text : outs_on spelling outs ≡ replies_on spelling whole_ones
  pub audited : (n : ℕ) → outs_audited n outs ≡ audited_from n whole_ones
  pub replies : replies_in outs ≡ length whole_ones
  pub torn : (n : ℕ) (lost : FailedSink) (s : Sinks) (o a : List ℕ) → IsOutLost spelling n lost last s o a → IsLostOn lost (entry_on spelling entry) (audit_line n entry) o a

no_replies : (X : Type 0) (outs : List HubOut) (last : HubOut) → [] ≡ outs ++ last ∷ [] → X
no_replies X [] last e = absurd cc
no_replies X (o ∷ outs) last e = absurd cc

head_same : (x y : HubOut) (xs ys : List HubOut) → x ∷ xs ≡ y ∷ ys → x ≡ y
head_same x y xs ys e = cc

tail_same : (x y : HubOut) (xs ys : List HubOut) → x ∷ xs ≡ y ∷ ys → xs ≡ ys
tail_same x y xs ys e = cc

-- Replies that end with the torn one.
pub cut_last : (spelling : Spelling) (x : AnswerSpec) (lawful : IsAnswerSpec x) (mine : List LogEntry) (replies outs : List HubOut) (last : HubOut) (before after : RunSeen)
    → x.ready before
    → AreEntriesAnswered (hearing x) (IsHandled spelling x) (refusal 500 None) before mine replies after → replies ≡ outs ++ last ∷ []
    → IsCut spelling mine outs last
cut_last spelling x lawful [] replies outs last before after start (none, same) parts = no_replies _ outs last (sym none ∙ parts)
cut_last spelling x lawful (entry ∷ mine) replies [] last before after start (c, sent, rest, between, is, whole_ones, answered, more) parts =
    let line = line_of spelling x lawful c entry.subject entry.answer sent before between start answered in
    let both = sym whole_ones ∙ parts in
    let lines = lines_all spelling x lawful mine rest between after (lawful.goes_on before between _ _ line.one) more in
    let none : mine ≡ [] = no_entries mine (sym lines.replies ∙ ap replies_in (tail_same (Reply c sent) last rest [] both)) in
    let same : sent_on spelling c sent ≡ entry_on spelling entry = line.line ∙ ap (λ (s : Source). reply_on spelling s entry.subject entry.answer) (sym is) in
    record {
      whole_ones = [];
      entry = entry;
      parts = ap (λ (m : List LogEntry). entry ∷ m) none;
      text = refl;
      audited = λ n. refl;
      replies = refl;
      torn = λ n lost s o a torn.
          let at : IsLostAt lost (sent_on spelling c sent) (sent_audit n sent) s o a =
          subst (λ (l : HubOut). IsOutLost spelling n lost l s o a) (sym (head_same (Reply c sent) last rest [] both)) torn in
          subst (λ (t : List ℕ). IsLostOn lost t (audit_line n entry) o a) same
          (subst (λ (t : List ℕ). IsLostOn lost (sent_on spelling c sent) t o a) (line.audit n) at.torn);
    }
cut_last spelling x lawful (entry ∷ mine) replies (first ∷ outs) last before after start (c, sent, rest, between, is, whole_ones, answered, more) parts =
    let line = line_of spelling x lawful c entry.subject entry.answer sent before between start answered in
    let both = sym whole_ones ∙ parts in
    let cut = cut_last spelling x lawful mine rest outs last between after (lawful.goes_on before between _ _ line.one) more (tail_same (Reply c sent) first rest (outs ++ last ∷ []) both) in
    let same : sent_on spelling c sent ≡ entry_on spelling entry = line.line ∙ ap (λ (s : Source). reply_on spelling s entry.subject entry.answer) (sym is) in
    subst (λ (f : HubOut). IsCut spelling (entry ∷ mine) (f ∷ outs) last) (head_same (Reply c sent) first rest (outs ++ last ∷ []) both)
    (record {
      whole_ones = entry ∷ cut.whole_ones;
      entry = cut.entry;
      parts = ap (λ (m : List LogEntry). entry ∷ m) cut.parts;
      text = ap (λ (t : List ℕ). t ++ outs_on spelling outs) same ∙ ap (λ (t : List ℕ). entry_on spelling entry ++ t) cut.text;
      audited = λ n.
          ap (λ (t : List ℕ). t ++ outs_audited (n + 1) outs) (line.audit n) ∙ ap (λ (t : List ℕ). audit_line n entry ++ t) (cut.audited (n + 1));
      replies = let r = cut.replies in omega (arith, r);
      torn = cut.torn;
    })
