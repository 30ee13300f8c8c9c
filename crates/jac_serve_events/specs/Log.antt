-- The bytes that are written for a log, and the events that it answers.
use Rattle.std.specs.Prelude.{◌≡◌, ℕ, ◌+◌, ◌&&◌, ◌||◌, Bool, true, is_some, not, if◌then◌else◌, Option, None, List, [], ◌∷◌, ◌++◌, codes}
use Rattle.std.specs.List.{flat_map}
use Rattle.std.specs.Str.{bytes_eq}
use Rattle.jac_events.specs.declared.event.Event.{Event}
use Rattle.jac_events.specs.declared.event.Event.TheVariants.{Ask as Asking, Begin, Piece, Finish}
use Rattle.jac_http.specs.Replies.{reply_bytes}
use Rattle.jac_hub.specs.Hearing.{Source, asked, connection, whole, refused, broken}
use Rattle.jac_hub.specs.Heard.{Connections, IsBroughtBy, after_both}
use Rattle.jac_hub.specs.Served.{is_shut}
use Rattle.jac_replies.specs.declared.answer.Answer.{Answer}
use Rattle.jac_replies.specs.declared.answer.Ask.{Ask}
use Rattle.jac_replies.specs.declared.reply.Spelling.{Spelling}
use Rattle.jac_replies.specs.declared.reply.Spelling.TheVariants as spellings
use Rattle.jac_replies.specs.Spelled.{reply_text, spelled_bytes, closed_text, audit_text}
use Rattle.jac_serve_events.specs.AnswerSpec.{LogSubject, LogEntry, is_failure, AnswerSpec, hearing}

-- The method of a request. If it is HEAD, the body isn't sent.
abbrev pub method_of : LogSubject → List ℕ
method_of (whole ask closes) = ask.method
method_of (refused status) = []
method_of broken = []

-- The reply says that its connection is closed.
abbrev pub closes_behind : LogSubject → Answer → Bool
closes_behind (whole ask closes) answer = closes || is_failure answer
closes_behind (refused status) answer = true
closes_behind broken answer = true

abbrev pub answer_bytes : LogSubject → Answer → List ℕ
answer_bytes subject answer =
    reply_bytes answer.status answer.location answer.allow answer.body (is_some answer.shown)
    (bytes_eq (method_of subject) (codes "HEAD")) (closes_behind subject answer)

-- The reply, which is spelled this way if it is sent on a connection.
abbrev pub reply_on : Spelling → Source → LogSubject → Answer → List ℕ
reply_on spelling asked subject answer =
    reply_text (method_of subject) answer.status answer.location answer.body
reply_on spelling (connection c) subject answer = spelled_bytes spelling c
    (answer_bytes subject answer)

abbrev pub entry_on : Spelling → LogEntry → List ℕ
entry_on spelling entry = reply_on spelling entry.source entry.subject entry.answer

abbrev pub replies_on : Spelling → List LogEntry → List ℕ
replies_on spelling log = flat_map (entry_on spelling) log

-- The reply in a text.
abbrev pub reply_to : Source → LogSubject → Answer → List ℕ
reply_to source subject answer = reply_on spellings.Quoted source subject answer

-- The lines of the replies, in order.
abbrev pub replies_text : List LogEntry → List ℕ
replies_text log = replies_on spellings.Quoted log

-- The line `closed N`, if the event closed its connection.
abbrev pub closing_text : Event → Connections Ask → Connections Ask → List ℕ
closing_text (Asking viewer method path query body) before after = []
closing_text (Begin c) before after = []
closing_text (Piece c bytes) before after =
    if not (is_shut (before c)) && is_shut (after c) then closed_text c else []
closing_text (Finish c) before after = []

-- The text of an event: the lines of its replies, and then that its connection was closed, if it
-- was.
abbrev pub event_text : AnswerSpec → Event → Connections Ask → List LogEntry → List ℕ
event_text x event known mine =
    replies_text mine ++ closing_text event known (after_both (hearing x) event mine known)

-- The events, numbered from n, bring the log, this is their text, and these are the connections
-- after them.
abbrev pub Brings : AnswerSpec → Connections Ask → ℕ → List Event → List LogEntry → List ℕ
    → Connections Ask → Type 0
Brings x known n [] log text later = (log ≡ []) × (text ≡ []) × (later ≡ known)
Brings x known n (event ∷ events) log text later =
    (mine : List LogEntry) × (others : List LogEntry) × (rest : List ℕ) × (log ≡ mine ++ others)
    × (text ≡ event_text x event known mine ++ rest)
    × IsBroughtBy (hearing x) n event known mine
    × Brings x (after_both (hearing x) event mine known) (n + 1) events others rest later

abbrev pub viewer_of_subject : LogSubject → Option ℕ
viewer_of_subject (whole ask closes) = ask.viewer
viewer_of_subject (refused status) = None
viewer_of_subject broken = None

abbrev pub audit_line : ℕ → LogEntry → List ℕ
audit_line k entry =
    audit_text k entry.answer.status (viewer_of_subject entry.subject) entry.answer.shown
    entry.answer.consulted

abbrev pub audited_from : ℕ → List LogEntry → List ℕ
audited_from k [] = []
audited_from k (entry ∷ log) = audit_line k entry ++ audited_from (k + 1) log

-- The audit lines, in order. Replies are counted from 1.
abbrev pub audit_lines : List LogEntry → List ℕ
audit_lines log = audited_from 1 log
