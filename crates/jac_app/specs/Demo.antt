-- What `demo N` does: it answers generated requests without output, and counts them.
use Rattle.std.specs.Prelude.{◌≡◌, ◌⊎◌, ◌≤◌, ◌+◌, ◌*◌, ◌^◌, ℕ, Bool, true, false, if◌then◌else◌, Result, Ok, Err, Option, Some, None, List, [], ◌∷◌, ◌++◌, length, codes, decimal}
use Rattle.std.specs.Str.{bytes_eq}
use Rattle.jac_demo.specs.Calendar.{calendar_text}
use Rattle.jac_demo.specs.Requests.{demo_text}
use Rattle.jac_io.specs.Faults.{Rose}
use Rattle.jac_io.specs.Seen.{SinkSeen}
use Rattle.jac_io.specs.declared.sink.Failed.{Failed}
use Rattle.jac_lang.specs.Syntax.{Application}
use Rattle.jac_keep.specs.KeeperSeen.{KeeperSeen}
use Rattle.jac_replies.specs.declared.answer.Answer.{Answer}
use Rattle.jac_replies.specs.declared.answer.Ask.{Ask}
use Rattle.jac_events.specs.declared.event.Event.{Event}
use Rattle.jac_events.specs.declared.event.Event.TheVariants.{Ask as Asking, Begin, Piece, Finish}
use Rattle.jac_hub.specs.Hearing.{whole}
use Rattle.jac_dispatch.specs.declared.answer.RequestSource.TheVariants as ways
use Rattle.jac_app.specs.declared.demo.DemoFault.{DemoFault}
use Rattle.jac_app.specs.declared.demo.DemoFault.TheVariants as faults
use Rattle.jac_command_base.specs.declared.exit_reason.ExitReason.{ExitReason}
use Rattle.jac_command_base.specs.declared.exit_reason.ExitReason.TheVariants as exits
use Rattle.jac_app.specs.declared.summary.Summary.{Summary}
use Rattle.jac_app.specs.declared.summary.Tally.{Tally}
use Rattle.jac_app_load.specs.Application.{IsApplication, schema_text}
use Rattle.jac_dispatch.specs.Asked.{ask_in}
use Rattle.jac_command_base.specs.ExitReason.{PutsText}
use Rattle.jac_app.specs.Held.{leaving, opened_on, IsUnstarted, IsLeftAlone}
use Rattle.jac_viewer_caches.specs.declared.viewer_caches.ViewerEntry.{ViewerEntry}
use Rattle.jac_command_base.specs.Files.{IsAimed, IsUnopened}
use Rattle.jac_serve_events.specs.RunSeen.{RunSeen, keepers, IsStill}
use Rattle.jac_serve_events.specs.AnswerSpec.{LogEntry}
use Rattle.jac_serve_events.specs.Log.{method_of, audit_line, audit_lines}
use Rattle.jac_replies.specs.Spelled.{audit_text}
use Rattle.jac_serve_events.specs.Outside.{Span, Sinks, IsFront}
use Rattle.jac_command_base.specs.Attached.{IsAttached, IsOther}
use Rattle.jac_serve_events.specs.Script.{Script, script_of}
use Rattle.jac_dispatch.specs.Answered.{IsAnswerMade, IsEntryOf, answer_spec_of}
use Rattle.jac_serve_events.specs.Serve.{IsServed}

-- The number of entries for requests with this method.
abbrev pub asks_by : List ℕ → List LogEntry → ℕ
asks_by method [] = 0
asks_by method (entry ∷ log) = (if bytes_eq (method_of entry.subject) method then 1 else 0)
    + asks_by method log

-- The number of bytes in their bodies.
abbrev pub bytes_in : List LogEntry → ℕ
bytes_in [] = 0
bytes_in (entry ∷ log) = length entry.answer.body + bytes_in log

-- The number of labels that an audit line names.
abbrev pub labels_shown : Option (List ℕ) → ℕ
labels_shown None = 0
labels_shown (Some labels) = length labels

-- The number of labels in the audit lines of GETs.
abbrev pub labels_in : List LogEntry → ℕ
labels_in [] = 0
labels_in (entry ∷ log) = (if bytes_eq (method_of entry.subject) (codes "GET")
    then labels_shown entry.answer.shown else 0) + labels_in log

-- The summary of a log.
abbrev pub summary_of : List LogEntry → Summary
summary_of log = record {
  asks = length log;
  posts = asks_by (codes "POST") log;
  gets = asks_by (codes "GET") log;
  bytes = bytes_in log;
  labels = labels_in log;
}

-- The tally of one answer.
abbrev pub tally_of : Answer → Tally
tally_of answer = record { bytes = length answer.body; labels = labels_shown answer.shown }

-- The summary after one more request with this method was answered.
abbrev pub summary_after : Summary → List ℕ → Tally → Summary
summary_after summary method tally = record {
  asks = summary.asks + 1;
  posts = summary.posts + (if bytes_eq method (codes "POST") then 1 else 0);
  gets = summary.gets + (if bytes_eq method (codes "GET") then 1 else 0);
  bytes = summary.bytes + tally.bytes;
  labels = summary.labels + (if bytes_eq method (codes "GET") then tally.labels else 0);
}

-- The bounds of a summary's numbers, by the number of its requests.
pub record IsBounded (summary : Summary) : Type 0 where
  pub posts : summary.posts ≤ summary.asks
  pub gets : summary.gets ≤ summary.asks
  pub bytes : summary.bytes ≤ summary.asks * 2 ^ 64
  pub labels : summary.labels ≤ summary.asks * 2 ^ 64

-- The first part of the line `asks N posts P gets G bytes B labels L`.
abbrev pub counts_text : Summary → List ℕ
counts_text summary = codes "asks " ++ decimal summary.asks ++ codes " posts " ++ decimal
    summary.posts ++ codes " gets "

abbrev pub sizes_text : Summary → List ℕ
sizes_text summary = decimal summary.gets ++ codes " bytes " ++ decimal summary.bytes
    ++ codes " labels " ++ decimal summary.labels

abbrev pub summary_line : Summary → List ℕ
summary_line summary = counts_text summary ++ sizes_text summary ++ codes "\n"

-- A request was answered, and what it leaves was stored. `audit` is the audit line without its
-- number, and `tally` counts the answer.
pub record IsCounted (app : Application) (k : Span RunSeen) (ask : Ask) (audit : List ℕ)
    (tally : Tally) : Type 0 where
  pub reply : List ℕ
  pub made : IsAnswerMade false app k ways.Line ask reply audit
  pub tally_is : tally ≡ tally_of made.answer

-- An audit line is put, with this tally.
abbrev pub PutsTally : List ℕ → Tally → Result Tally Failed → List ℕ → Type 0
PutsTally line tally (Ok counts) put = (put ≡ line) × (counts ≡ tally)
PutsTally line tally (Err failed) put = IsFront put line

-- The request of an `ask` line is answered after `served` others, and only a prefix of its audit
-- line is put.
abbrev pub TearsAsk : Application → Span RunSeen → ℕ → Ask → List ℕ → Type 0
TearsAsk app k served ask audit =
    (answer : Answer) × IsEntryOf false app k (whole ask false) answer
    × IsFront audit (audit_text (served + 1) answer.status ask.viewer answer.shown
    answer.consulted)

-- The request of an `ask` line is answered. Its audit line is put whole, with this tally, or only a
-- prefix of it is put.
abbrev pub TalliesAsk : Application → Span RunSeen → ℕ → Ask → Result Tally Failed → List ℕ → Type 0
TalliesAsk app k served ask (Ok tally) audit =
    (answer : Answer) × IsEntryOf false app k (whole ask false) answer
    × (audit ≡ audit_text (served + 1) answer.status ask.viewer answer.shown answer.consulted)
    × (tally ≡ tally_of answer)
TalliesAsk app k served ask (Err failed) audit = TearsAsk app k served ask audit

-- A request is answered and counted.
abbrev pub TalliesBy : Application → Span RunSeen → Summary → List ℕ → Ask
    → Result Summary DemoFault → List ℕ → Type 0
TalliesBy app k summary method ask (Ok new) audit =
    (tally : Tally) × TalliesAsk app k summary.asks ask (Ok tally) audit
    × (new ≡ summary_after summary method tally)
TalliesBy app k summary method ask (Err faults.Write) audit = TearsAsk app k summary.asks ask audit
TalliesBy app k summary method ask (Err faults.Memory) audit = ⊥

abbrev pub TalliesEvent : Application → Span RunSeen → Summary → Event → Result Summary DemoFault
    → List ℕ → Type 0
TalliesEvent app k summary (Asking viewer method path query body) result audit =
    TalliesBy app k summary method (ask_in app viewer method path query body) result audit
TalliesEvent app k summary (Begin c) result audit = ⊥
TalliesEvent app k summary (Piece c bytes) result audit = ⊥
TalliesEvent app k summary (Finish c) result audit = ⊥

-- A line is served, which is empty or describes a request. If memory runs out, nothing happens.
abbrev pub TalliesLine : Application → Span RunSeen → Summary → Option (Option Event)
    → Result Summary DemoFault → List ℕ → Type 0
TalliesLine app k summary written (Err faults.Memory) audit = (audit ≡ []) × IsStill k
TalliesLine app k summary None result audit = ⊥
TalliesLine app k summary (Some None) result audit = (result ≡ Ok summary) × (audit ≡ [])
    × IsStill k
TalliesLine app k summary (Some (Some event)) result audit = TalliesEvent app k summary event result
    audit

-- These events were served, or the first of them if serving may stop early. The audit has the lines
-- of the log.
pub record Tallied (early : Bool) (app : Application) (k : Span RunSeen) (events : List Event)
    (log : List LogEntry) (audit : List ℕ) : Type 0 where
  pub served : IsServed early (answer_spec_of false app []) k events log
  pub audit_text : audit ≡ audit_lines log

-- The first events were served, and only a prefix of the last audit line was put.
pub record TalliedTorn (app : Application) (k : Span RunSeen) (events : List Event)
    (audit : List ℕ) : Type 0 where
  pub log : List LogEntry
  pub entry : LogEntry
  pub more : List ℕ
  pub served : IsServed true (answer_spec_of false app []) k events (log ++ entry ∷ [])
  pub torn : IsFront more (audit_line (length log + 1) entry)
  pub audit_text : audit ≡ audit_lines log ++ more

-- How serving a script without output ends.
abbrev pub Tallies : Application → Span RunSeen → Script → Result Summary DemoFault → List ℕ
    → Type 0
Tallies app k script (Ok summary) audit =
    (script.refused ≡ None) × ((log : List LogEntry) × Tallied false app k script.events log audit
    × (summary ≡ summary_of log))
Tallies app k script (Err faults.Memory) audit = (log : List LogEntry)
    × Tallied true app k script.events log audit
Tallies app k script (Err faults.Write) audit = TalliedTorn app k script.events audit

-- The generated requests. None of their lines is refused.
abbrev pub demo_script : ℕ → Script
demo_script count = script_of (demo_text count)

-- The same, with something cached for viewers at the end.
abbrev pub TalliesLeaving : Application → Span RunSeen → Script → Result Summary DemoFault → List ℕ
    → Type 0
TalliesLeaving app k script result audit =
    (left : List ViewerEntry) × Tallies app (leaving k left) script result audit

-- A store without a name was attached, and the requests were answered on it. `left` is what was
-- cached for viewers at the end.
pub record IsTalliedOn (app : Application) (k : Span RunSeen) (count : ℕ)
    (result : Result Summary DemoFault) (audit : List ℕ) : Type 0 where
  pub opened : KeeperSeen
  pub attached : IsAttached None app (keepers k) opened
  pub left : List ViewerEntry
  pub tallies : Tallies app (opened_on opened k left) (demo_script count) result audit

-- How the steps from the attachment on end.
abbrev pub EndsTallying : Application → Span RunSeen → ℕ → Result Summary ExitReason → List ℕ → Type
    0
EndsTallying app k count (Ok summary) audit = IsTalliedOn app k count (Ok summary) audit
EndsTallying app k count (Err exits.WriteFault) audit = IsTalliedOn app k count (Err faults.Write)
    audit
EndsTallying app k count (Err exits.Memory) audit = IsUnstarted k [] audit
    ⊎ IsTalliedOn app k count (Err faults.Memory) audit
EndsTallying app k count (Err exits.StoreFault) audit = Rose k.before.keeper.faults
    k.after.keeper.faults × IsUnstarted k [] audit
EndsTallying app k count (Err (exits.OtherStore stored wanted)) audit =
    (wanted ≡ schema_text app) × IsOther (keepers k) stored wanted × IsUnstarted k [] audit
EndsTallying app k count (Err exit_reason) audit = ⊥

-- The line of the summary is put. If that put fails, a prefix of it is. If there is no summary,
-- there is no line.
abbrev pub PutsSummary : Span SinkSeen → Result Summary ExitReason → Result (Unit {0}) ExitReason →
    List ℕ
    → Type 0
PutsSummary out (Ok summary) result put = PutsText out (summary_line summary) result put
PutsSummary out (Err exit_reason) result put = (result ≡ Err exit_reason) × (put ≡ [])

-- The requests were counted, and their summary is put.
pub record IsDemoTold (s : Sinks) (app : Application) (k : Span RunSeen) (count : ℕ)
    (result : Result (Unit {0}) ExitReason) (out audit : List ℕ) : Type 0 where
  pub ended : Result Summary ExitReason
  pub ends : EndsTallying app k count ended audit
  pub rose : ended ≡ Err exits.WriteFault → Rose s.audit.before.faults s.audit.after.faults
  pub told : PutsSummary s.out ended result out

-- The audit couldn't be aimed.
pub record IsUnaimed (s : Sinks) (k : Span RunSeen) (result : Result (Unit {0}) ExitReason)
    (out audit : List ℕ) : Type 0 where
  pub fault : result ≡ Err exits.WriteFault
  pub rose : Rose s.audit.before.faults s.audit.after.faults
  pub untouched : IsLeftAlone s.audit k out audit

-- How the steps from the aim of the audit on end.
abbrev pub EndsCounting : Sinks → Application → Span RunSeen → ℕ → Result (Unit {0}) ExitReason →
    List ℕ
    → List ℕ → Type 0
EndsCounting s app k count result out audit =
    IsUnaimed s k result out audit ⊎ (IsAimed None s.audit
    × IsDemoTold s app k count result out audit)

-- The calendar was read, and the requests were answered.
pub record IsDemo (s : Sinks) (k : Span RunSeen) (count : ℕ) (result : Result (Unit {0}) ExitReason)
    (out audit : List ℕ) : Type 0 where
  pub app : Application
  pub calendar : IsApplication calendar_text app
  pub ends : EndsCounting s app k count result out audit

-- The calendar wasn't read, or memory ran out before the audit was aimed.
abbrev pub IsUncounted : Sinks → Span RunSeen → Result (Unit {0}) ExitReason → List ℕ → List ℕ
    → Type 0
IsUncounted s k (Ok done) out audit = ⊥
IsUncounted s k (Err exit_reason) out audit = IsUnopened calendar_text exit_reason
    × IsLeftAlone s.audit k out audit

-- What the steps of a demo put, and why they ended.
abbrev pub EndsDemo : Sinks → Span RunSeen → ℕ → Result (Unit {0}) ExitReason → List ℕ → List ℕ
    → Type 0
EndsDemo s k count result out audit = IsUncounted s k result out audit
    ⊎ IsDemo s k count result out audit
