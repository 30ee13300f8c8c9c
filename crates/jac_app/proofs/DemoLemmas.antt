-- Requests that are answered without output, one after another.
use Rattle.std.proofs.Common.{◌≡◌, ◌∙◌, ap, sym, subst, refl, inl, inr, ℕ, ◌+◌, ◌≤◌, Bool, true, false, IsTrue, if◌then◌else◌, Option, Some, None, Result, Ok, Err, List, [], ◌∷◌, ◌++◌, length, append-nil, length-append, decimal, arith, codes}
use denote.Ref.{Bor}
use Rattle.std.specs.Str.{bytes_eq}
use Rattle.jac_demo.specs.Calendar.{calendar_text}
use Rattle.jac_demo.specs.Requests.{demo_text}
use Rattle.jac_io.specs.Seen.{SinkSeen, Aims}
use Rattle.jac_io.specs.Faults.{Rose}
use Rattle.jac_io.specs.declared.sink.Failed.{Failed}
use Rattle.jac_lang.specs.Syntax.{Application}
use Rattle.jac_keep.specs.KeeperSeen.{KeeperSeen}
use Rattle.jac_keep.specs.declared.stop.Stop.{Stop}
use Rattle.jac_value.specs.Parts.{parts_left, option_now}
use Rattle.jac_replies.specs.Refused.{refusal}
use Rattle.jac_engine.specs.Start.{IsStart}
use Rattle.jac_replies.specs.declared.answer.Answer.{Answer}
use Rattle.jac_replies.specs.declared.answer.Ask.{Ask}
use Rattle.jac_events.specs.declared.event.Event.{Event}
use Rattle.jac_events.specs.declared.event.Event.TheVariants.{Ask as Asking, Begin, Piece, Finish}
use Rattle.jac_events.specs.Lines.{line_of}
use Rattle.jac_hub.specs.Hearing.{whole}
use Rattle.jac_hub.specs.Heard.{no_connections}
use Rattle.jac_dispatch.specs.declared.answer.RequestSource.TheVariants as ways
use Rattle.jac_app.specs.declared.demo.DemoFault.{DemoFault}
use Rattle.jac_app.specs.declared.demo.DemoFault.TheVariants as faults
use Rattle.jac_command_base.specs.declared.exit_reason.ExitReason.{ExitReason}
use Rattle.jac_command_base.specs.declared.exit_reason.ExitReason.TheVariants as exits
use Rattle.jac_app.specs.declared.summary.Summary.{Summary}
use Rattle.jac_app.specs.declared.summary.Tally.{Tally}
use Rattle.jac_dispatch.specs.Asked.{ask_in}
use Rattle.jac_app.specs.Demo.{asks_by, bytes_in, labels_shown, labels_in, summary_of, tally_of, summary_after, IsCounted, PutsTally, TalliesAsk, TearsAsk, TalliesLine, Tallied, TalliedTorn, Tallies, TalliesLeaving, IsTalliedOn, EndsTallying, IsDemoTold, EndsCounting, summary_line, demo_script}
use Rattle.jac_replies.specs.Failed.{status_of_stop}
use Rattle.jac_dispatch.specs.Log.{application_hearing}
use Rattle.jac_serve_events.specs.AnswerSpec.{LogEntry, IsHeardBy}
use Rattle.jac_serve_events.specs.Log.{Brings, method_of, audit_line, audit_lines}
use Rattle.jac_replies.specs.Spelled.{audit_text}
use Rattle.jac_serve_events.specs.RunSeen.{RunCounts, RunSeen, run_seen_of, keepers}
use Rattle.jac_serve_events.specs.Outside.{Span, span, sinks, IsFront, IsPut, Went, WentAimed, WentTo}
use Rattle.jac_command_base.specs.Attached.{AttachesAs}
use Rattle.jac_serve_events.specs.Script.{Script, script_from, script_of, script_step}
use Rattle.jac_dispatch.specs.Answered.{IsEntryOf, AreEntries, answer_spec_of}
use Rattle.jac_serve_events.proofs.OutsideLemmas.{Lasts-none, Took-none, Rose-widen}
use Rattle.jac_command_base.proofs.ExitReasonLemmas.{is_attached}
use Rattle.jac_dispatch.proofs.EntryLemmas.{is_made}
use Rattle.jac_dispatch.proofs.EntriesLemmas.{entries-none, entries-one, entries-then}
use Rattle.jac_serve_events.proofs.EntriesLemmas.{entries-still}
use Rattle.jac_serve_events.proofs.BringsLemmas.{brings-push, brings-begun}
use Rattle.jac_serve_events.proofs.EventLemmas.{ask_entry}
use Rattle.jac_serve_events.proofs.ProgressLemmas.{served_before, served_push, audited_more, heard_by, is_served_by, nothing_more, early_is_not_whole}

-- A whole put. Below, a torn one.
pub WentTo-whole : (s : Span SinkSeen) (line : List ℕ) (tally : Tally) (done : Unit {0}) → IsPut {E = Failed} s line (Ok done) → WentTo s (PutsTally line tally (Ok tally))
WentTo-whole s line tally done put = record { put = put.put; lasts = put.lasts; took = put.took; holds = (put.is_put, refl) }

pub WentTo-torn : (s : Span SinkSeen) (line : List ℕ) (tally : Tally) (failed : Failed) → IsPut {E = Failed} s line (Err failed) → WentTo s (PutsTally line tally (Err failed))
WentTo-torn s line tally failed put = record { put = put.put; lasts = put.lasts; took = put.took; holds = put.is_put }

-- The same for an equal line and an equal tally.
PutsTally-same : (line line_now : List ℕ) (tally tally_now : Tally) (result : Result Tally Failed) (put : List ℕ) → line ≡ line_now → tally ≡ tally_now
    → PutsTally line tally result put → PutsTally line_now tally_now result put
PutsTally-same line line_now tally tally_now result put same_line same_tally h =
    subst (λ (l : List ℕ). PutsTally l tally_now result put) same_line (subst (λ (t : Tally). PutsTally line t result put) same_tally h)

-- The same for an equal rest of the line.
pub same_line : (k : ℕ) (rest rest_now : List ℕ) (tally : Tally) (result : Result Tally Failed) (put : List ℕ) → rest ≡ rest_now
    → PutsTally (decimal k ++ rest) tally result put → PutsTally (decimal k ++ rest_now) tally result put
same_line k rest rest_now tally result put same h = subst (λ (r : List ℕ). PutsTally (decimal k ++ r) tally result put) same h

tallies_ask : (app : Application) (k : Span RunSeen) (served : ℕ) (ask : Ask) (answer : Answer) (result : Result Tally Failed) (put : List ℕ)
    → IsEntryOf false app k (whole ask false) answer → PutsTally (audit_text (served + 1) answer.status ask.viewer answer.shown answer.consulted) (tally_of answer) result put
    → TalliesAsk app k served ask result put
tallies_ask app k served ask answer (Ok tally) put entry h = (answer, entry, h.0, h.1)
tallies_ask app k served ask answer (Err failed) put entry h = (answer, entry, h)

-- A request was answered, and its audit line was put.
pub ask_counted : (app : Application) (k : Span RunSeen) (served : ℕ) (ask : Ask) (rest : List ℕ) (tally : Tally) (result : Result Tally Failed) (put : List ℕ)
    → IsCounted app k ask rest tally → (IsTrue k.after.keeper.tells → IsTrue k.before.keeper.tells) → k.before.keeper.faults ≤ k.after.keeper.faults
    → PutsTally (decimal (served + 1) ++ rest) tally result put → TalliesAsk app k served ask result put
ask_counted app k served ask rest tally result put made told later h =
    tallies_ask app k served ask made.made.answer result put (is_made false app k ways.Line ask false made.reply rest made.made told later)
    (PutsTally-same _ _ _ _ result put (ap (λ (t : List ℕ). decimal (served + 1) ++ t) made.made.audit_made) made.tally_is h)

-- A request wasn't answered.
pub ask_stopped : (app : Application) (k : Span RunSeen) (served : ℕ) (ask : Ask) (viewer : Option ℕ) (stop : Stop) (result : Result Tally Failed) (put : List ℕ)
    → viewer ≡ ask.viewer → IsEntryOf false app k (whole ask false) (refusal (status_of_stop stop) None)
    → PutsTally (audit_text (served + 1) (status_of_stop stop) viewer None None) (tally_of (refusal (status_of_stop stop) None)) result put → TalliesAsk app k served ask result put
ask_stopped app k served ask viewer stop result put same entry h =
    tallies_ask app k served ask (refusal (status_of_stop stop) None) result put entry
    (PutsTally-same _ _ _ _ result put (ap (λ (v : Option ℕ). audit_text (served + 1) (status_of_stop stop) v None None) same) refl h)

-- Sums with one more term at the end.
sum_one : (x : ℕ) → 0 + x ≡ x + 0
sum_one x = omega arith

sum_more : (first rest one all : ℕ) → rest + one ≡ all → (first + rest) + one ≡ first + all
sum_more first rest one all h = omega (arith, h)

asks_push : (method : List ℕ) (log : List LogEntry) (entry : LogEntry)
    → asks_by method log + (if bytes_eq (method_of entry.subject) method then 1 else 0) ≡ asks_by method (log ++ entry ∷ [])
asks_push method [] entry = sum_one (if bytes_eq (method_of entry.subject) method then 1 else 0)
asks_push method (first ∷ log) entry =
    sum_more (if bytes_eq (method_of first.subject) method then 1 else 0) (asks_by method log) (if bytes_eq (method_of entry.subject) method then 1 else 0) (asks_by method (log ++ entry ∷ []))
    (asks_push method log entry)

bytes_push : (log : List LogEntry) (entry : LogEntry) → bytes_in log + length entry.answer.body ≡ bytes_in (log ++ entry ∷ [])
bytes_push [] entry = sum_one (length entry.answer.body)
bytes_push (first ∷ log) entry = sum_more (length first.answer.body) (bytes_in log) (length entry.answer.body) (bytes_in (log ++ entry ∷ [])) (bytes_push log entry)

labels_push : (log : List LogEntry) (entry : LogEntry)
    → labels_in log + (if bytes_eq (method_of entry.subject) (codes "GET") then labels_shown entry.answer.shown else 0) ≡ labels_in (log ++ entry ∷ [])
labels_push [] entry = sum_one (if bytes_eq (method_of entry.subject) (codes "GET") then labels_shown entry.answer.shown else 0)
labels_push (first ∷ log) entry =
    sum_more (if bytes_eq (method_of first.subject) (codes "GET") then labels_shown first.answer.shown else 0) (labels_in log)
    (if bytes_eq (method_of entry.subject) (codes "GET") then labels_shown entry.answer.shown else 0) (labels_in (log ++ entry ∷ []))
    (labels_push log entry)

-- The summary of a log with one more entry.
summary_push : (log : List LogEntry) (entry : LogEntry) → summary_after (summary_of log) (method_of entry.subject) (tally_of entry.answer) ≡ summary_of (log ++ entry ∷ [])
summary_push log entry =
    let asks = sym (length-append log (entry ∷ [])) in
    let posts = asks_push (codes "POST") log entry in
    let gets = asks_push (codes "GET") log entry in
    let bytes = bytes_push log entry in
    let labels = labels_push log entry in
    λ i. record { asks = asks i; posts = posts i; gets = gets i; bytes = bytes i; labels = labels i }

-- Some lines were served, and these are left.
pub record Tallying (app : Application) (k : Span RunSeen) (bytes : List ℕ) (left : Option (List ℕ)) (summary : Summary) (audit : List ℕ) : Type 0 where
  pub lines : ℕ
  pub events : List Event
  pub log : List LogEntry
  pub text : List ℕ
  pub script : served_before events (script_from (parts_left 10 left) (lines + 1) (λ c. false)) ≡ script_of bytes
  pub entries : AreEntries false app k log
  pub brought : Brings (answer_spec_of false app []) no_connections 0 events log text no_connections
  pub audit_text : audit ≡ audit_lines log
  pub summary_is : summary ≡ summary_of log

pub tally_start : (app : Application) (a : RunSeen) (bytes : List ℕ) (summary : Summary) → summary ≡ summary_of [] → (IsTrue a.keeper.tells → IsStart app a.keeper.state)
    → Tallying app (span a a) bytes (Some bytes) summary []
tally_start app a bytes summary none start = record {
  lines = 0;
  events = [];
  log = [];
  text = [];
  script = refl;
  entries = entries-none false app a start;
  brought = (refl, refl, refl);
  audit_text = refl;
  summary_is = none;
}

-- The lines that are left, by what the first of them describes.
written_next : {app : Application} {k : Span RunSeen} {bytes : List ℕ} {left : Option (List ℕ)} {summary : Summary} {audit : List ℕ}
    (p : Tallying app k bytes left summary audit) (line : List ℕ) (rest : List (List ℕ)) (written : Option (Option Event)) → parts_left 10 left ≡ line ∷ rest → line_of line ≡ written
    → served_before p.events (script_step (p.lines + 1) written (λ c. false) (script_from rest (p.lines + 1 + 1))) ≡ script_of bytes
written_next {app} {k} {bytes} {left} p line rest written parts is =
    ap (λ (o : Option (Option Event)). served_before p.events (script_step (p.lines + 1) o (λ c. false) (script_from rest (p.lines + 1 + 1)))) (sym is)
    ∙ ap (λ (ls : List (List ℕ)). served_before p.events (script_from ls (p.lines + 1) (λ c. false))) (sym parts) ∙ p.script

asks_counted : (summary : Summary) (log : List LogEntry) → summary ≡ summary_of log → length log ≡ summary.asks
asks_counted summary log is = sym (ap (λ (s : Summary). s.asks) is)

-- A request was answered and counted.
tally_more : (app : Application) (a b c : RunSeen) (bytes : List ℕ) (left after : Option (List ℕ)) (summary : Summary) (audit line au : List ℕ)
    (viewer : Option ℕ) (method path query body : List ℕ) (tally : Tally)
    → Tallying app (span a b) bytes left summary audit → parts_left 10 left ≡ line ∷ parts_left 10 after
    → line_of line ≡ Some (Some (Asking viewer method path query body))
    → TalliesAsk app (span b c) summary.asks (ask_in app viewer method path query body) (Ok tally) au
    → Tallying app (span a c) bytes after (summary_after summary method tally) (audit ++ au)
tally_more app a b c bytes left after summary audit line au viewer method path query body tally p parts is h =
    let event = Asking viewer method path query body in
    let answer = h.0 in
    let entry = ask_entry (0 + length p.events) (ask_in app viewer method path query body) answer in
    let asks = asks_counted summary p.log p.summary_is in
    record {
      lines = p.lines + 1;
      events = p.events ++ event ∷ [];
      log = p.log ++ entry ∷ [];
      text = _;
      script =
          served_push p.events event (script_from (parts_left 10 after) (p.lines + 1 + 1) (λ c. false))
          ∙ written_next p line (parts_left 10 after) (Some (Some event)) parts is;
      entries = entries-then false app a b c p.log (entry ∷ []) p.entries (entries-one false app b c entry h.1);
      brought = brings-push (answer_spec_of false app []) p.events no_connections no_connections 0 p.log (entry ∷ []) p.text event p.brought (answer, refl);
      audit_text = audited_more p.log (entry ∷ []) summary.asks audit au asks p.audit_text (h.2 ∙ sym (append-nil (audit_line (summary.asks + 1) entry)));
      summary_is =
          ap (λ (s : Summary). summary_after s method tally) p.summary_is ∙ ap (λ (t : Tally). summary_after (summary_of p.log) method t) h.3
          ∙ summary_push p.log entry;
    }

-- An empty line is skipped.
tally_same : (app : Application) (a b c : RunSeen) (bytes : List ℕ) (left after : Option (List ℕ)) (summary : Summary) (audit line : List ℕ)
    → Tallying app (span a b) bytes left summary audit → parts_left 10 left ≡ line ∷ parts_left 10 after → line_of line ≡ Some None → c ≡ b
    → Tallying app (span a c) bytes after summary audit
tally_same app a b c bytes left after summary audit line p parts is still = record {
  lines = p.lines + 1;
  events = p.events;
  log = p.log;
  text = p.text;
  script = written_next p line (parts_left 10 after) (Some None) parts is;
  entries = entries-still (answer_spec_of false app []) a b c p.log p.entries still;
  brought = p.brought;
  audit_text = p.audit_text;
  summary_is = p.summary_is;
}

ok_summary : (x y : Summary) → ◌≡◌ {A = Result Summary DemoFault} (Ok x) (Ok y) → x ≡ y
ok_summary x y e = cc

no_ok : (X : Type 0) (fault : DemoFault) (y : Summary) → ◌≡◌ {A = Result Summary DemoFault} (Err fault) (Ok y) → X
no_ok X fault y e = absurd cc

-- A line was served.
pub tally_on : (app : Application) (a b c : RunSeen) (bytes : List ℕ) (left after : Option (List ℕ)) (summary new : Summary) (audit line au : List ℕ) (written : Option (Option Event))
    → Tallying app (span a b) bytes left summary audit → parts_left 10 left ≡ line ∷ parts_left 10 after → line_of line ≡ written
    → TalliesLine app (span b c) summary written (Ok new) au → Tallying app (span a c) bytes after new (audit ++ au)
tally_on app a b c bytes left after summary new audit line au None p parts is h = absurd h
tally_on app a b c bytes left after summary new audit line au (Some None) p parts is h =
    subst (λ (t : List ℕ). Tallying app (span a c) bytes after new t) (nothing_more audit au h.1)
    (subst (λ (s : Summary). Tallying app (span a c) bytes after s audit) (sym (ok_summary new summary h.0))
    (tally_same app a b c bytes left after summary audit line p parts is h.2))
tally_on app a b c bytes left after summary new audit line au (Some (Some (Asking viewer method path query body))) p parts is h =
    subst (λ (s : Summary). Tallying app (span a c) bytes after s (audit ++ au)) (sym h.2)
    (tally_more app a b c bytes left after summary audit line au viewer method path query body h.0 p parts is h.1)
tally_on app a b c bytes left after summary new audit line au (Some (Some (Begin n))) p parts is h = absurd h
tally_on app a b c bytes left after summary new audit line au (Some (Some (Piece n piece))) p parts is h = absurd h
tally_on app a b c bytes left after summary new audit line au (Some (Some (Finish n))) p parts is h = absurd h

-- The lines so far were served, and nothing more.
tallied_with : (early : Bool) (app : Application) (a b c : RunSeen) (bytes : List ℕ) (left : Option (List ℕ)) (summary : Summary) (audit : List ℕ) (unserved : List Event)
    → (p : Tallying app (span a b) bytes left summary audit) → c ≡ b → (script_of bytes).events ≡ p.events ++ unserved → (early ≡ false → unserved ≡ [])
    → Tallied early app (span a c) (script_of bytes).events p.log audit
tallied_with early app a b c bytes left summary audit unserved p still parts ended = record {
  served =
      is_served_by early (answer_spec_of false app []) a c (script_of bytes).events p.log
      (heard_by early (answer_spec_of false app []) p.events unserved (script_of bytes).events p.log p.text no_connections p.brought parts ended) (entries-still (answer_spec_of false app []) a b c p.log p.entries still);
  audit_text = p.audit_text;
}

-- The audit line of a request was torn.
tally_torn : (app : Application) (a b c : RunSeen) (bytes : List ℕ) (left after : Option (List ℕ)) (summary : Summary) (audit line au : List ℕ)
    (viewer : Option ℕ) (method path query body : List ℕ)
    → Tallying app (span a b) bytes left summary audit → parts_left 10 left ≡ line ∷ parts_left 10 after
    → line_of line ≡ Some (Some (Asking viewer method path query body))
    → TearsAsk app (span b c) summary.asks (ask_in app viewer method path query body) au
    → TalliedTorn app (span a c) (script_of bytes).events (audit ++ au)
tally_torn app a b c bytes left after summary audit line au viewer method path query body p parts is h =
    let event = Asking viewer method path query body in
    let answer = h.0 in
    let entry = ask_entry (0 + length p.events) (ask_in app viewer method path query body) answer in
    let unserved = (script_from (parts_left 10 after) (p.lines + 1 + 1) (λ c. false)).events in
    let all : (script_of bytes).events ≡ p.events ++ event ∷ unserved =
    ap (λ (s : Script). s.events) (sym (written_next p line (parts_left 10 after) (Some (Some event)) parts is)) in
    record {
      log = p.log;
      entry = entry;
      more = au;
      served =
          is_served_by true (answer_spec_of false app []) a c (script_of bytes).events (p.log ++ entry ∷ [])
          (subst (λ (es : List Event). IsHeardBy true (application_hearing app []) es (p.log ++ entry ∷ [])) (sym all)
          (brings-begun (answer_spec_of false app []) p.events unserved event no_connections no_connections 0 p.log (entry ∷ []) p.text p.brought (inr (answer, refl))))
          (entries-then false app a b c p.log (entry ∷ []) p.entries (entries-one false app b c entry h.1));
      torn = subst (λ (n : ℕ). IsFront au (audit_line (n + 1) entry)) (sym (asks_counted summary p.log p.summary_is)) h.2;
      audit_text = ap (λ (t : List ℕ). t ++ au) p.audit_text;
    }

-- Serving stopped at a line.
pub tally_stop : (app : Application) (a b c : RunSeen) (bytes : List ℕ) (left after : Option (List ℕ)) (summary : Summary) (audit line au : List ℕ) (written : Option (Option Event)) (fault : DemoFault)
    → Tallying app (span a b) bytes left summary audit → parts_left 10 left ≡ line ∷ parts_left 10 after → line_of line ≡ written
    → TalliesLine app (span b c) summary written (Err fault) au → Tallies app (span a c) (script_of bytes) (Err fault) (audit ++ au)
tally_stop app a b c bytes left after summary audit line au written faults.Memory p parts is h = (
  p.log,
  subst (λ (t : List ℕ). Tallied true app (span a c) (script_of bytes).events p.log t) (nothing_more audit au h.0)
      (tallied_with true app a b c bytes left summary audit _ p h.1 (ap (λ (s : Script). s.events) (sym p.script)) early_is_not_whole),
)
tally_stop app a b c bytes left after summary audit line au None faults.Write p parts is h = absurd h
tally_stop app a b c bytes left after summary audit line au (Some None) faults.Write p parts is h = no_ok _ faults.Write summary h.0
tally_stop app a b c bytes left after summary audit line au (Some (Some (Asking viewer method path query body))) faults.Write p parts is h =
    tally_torn app a b c bytes left after summary audit line au viewer method path query body p parts is h
tally_stop app a b c bytes left after summary audit line au (Some (Some (Begin n))) faults.Write p parts is h = absurd h
tally_stop app a b c bytes left after summary audit line au (Some (Some (Piece n piece))) faults.Write p parts is h = absurd h
tally_stop app a b c bytes left after summary audit line au (Some (Some (Finish n))) faults.Write p parts is h = absurd h

-- No line is left.
pub tally_all : (app : Application) (a b : RunSeen) (bytes : List ℕ) (left : Option (Bor (List ℕ))) (summary : Summary) (audit : List ℕ)
    → ((rest : Bor (List ℕ)) → left ≡ Some rest → ⊥) → Tallying app (span a b) bytes (option_now left) summary audit
    → Tallies app (span a b) (script_of bytes) (Ok summary) audit
tally_all app a b bytes None summary audit none p = (
  ap (λ (s : Script). s.refused) (sym p.script),
  (
    p.log,
    tallied_with false app a b b bytes None summary audit [] p refl (ap (λ (s : Script). s.events) (sym p.script)) (λ is. refl),
    p.summary_is,
  ),
)
tally_all app a b bytes (Some rest) summary audit none p = absurd (none rest refl)

-- The calendar's text isn't too long.
pub short_calendar : length calendar_text ≤ 1048576
unfolding calendar_text
short_calendar = omega arith

-- Memory ran out before the first request.
pub tally_none : (app : Application) (k : RunSeen) (count : ℕ) → (IsTrue k.keeper.tells → IsStart app k.keeper.state)
    → Tallies app (span k k) (demo_script count) (Err faults.Memory) []
tally_none app k count start =
    let none = summary_of [] in
    let p = tally_start app k (demo_text count) none refl start in
    (p.log, tallied_with true app k k k (demo_text count) (Some (demo_text count)) none [] _ p refl (ap (λ (s : Script). s.events) (sym p.script)) early_is_not_whole)

-- If a store wasn't attached, the counting ends.
pub tally_unattached : (app : Application) (k : Span RunSeen) (count : ℕ) (exit_reason : ExitReason) → AttachesAs None app (keepers k) (Err exit_reason) → k.after.splits ≡ k.before.splits
    → EndsTallying app k count (Err exit_reason) []
tally_unattached app k count exits.StoreFault h unsplit = (h.0, record { unattached = h.1; unsplit = unsplit })
tally_unattached app k count (exits.OtherStore stored wanted) h unsplit = (h.0, h.1, record { unattached = h.2; unsplit = unsplit })
tally_unattached app k count exits.Memory h unsplit = inl (record { unattached = h; unsplit = unsplit })
tally_unattached app k count (exits.ReadFault role) h unsplit = absurd h
tally_unattached app k count (exits.TooLong role) h unsplit = absurd h
tally_unattached app k count (exits.AppRefused line) h unsplit = absurd h
tally_unattached app k count (exits.NewRefused line) h unsplit = absurd h
tally_unattached app k count (exits.UpgradeRefused line) h unsplit = absurd h
tally_unattached app k count exits.DoorFault h unsplit = absurd h
tally_unattached app k count (exits.LineRefused event_fault) h unsplit = absurd h
tally_unattached app k count (exits.SessionsRefused line) h unsplit = absurd h
tally_unattached app k count exits.WriteFault h unsplit = absurd h

-- The requests were answered on a store that was attached.
pub tallied_on : (app : Application) (before opened : KeeperSeen) (counts : RunCounts) (after : RunSeen) (count : ℕ) (result : Result Summary DemoFault) (audit : List ℕ)
    → AttachesAs None app (span before opened) (Ok tt) → after.keeper.store ≡ opened.store
    → TalliesLeaving app (span (run_seen_of opened counts) after) (demo_script count) result audit → IsTalliedOn app (span (run_seen_of before counts) after) count result audit
tallied_on app before opened counts after count result audit attaches stays h = record {
  opened = opened;
  attached = is_attached None app before opened after.keeper attaches stays;
  left = h.0;
  tallies = h.1;
}

no_fault : (X : Type 0) (summary : Summary) → ◌≡◌ {A = Result Summary ExitReason} (Ok summary) (Err exits.WriteFault) → X
no_fault X summary is = absurd cc

-- The summary is put whole, or torn, or there is none.
module _ (out_before out_after audit_before audit_after : SinkSeen) (app : Application) (k : Span RunSeen) (count : ℕ) where
  pub told_whole : (summary : Summary) (done : Unit {0}) → WentTo (span audit_before audit_after) (EndsTallying app k count (Ok summary))
      → IsPut {E = Failed} (span out_before out_after) (summary_line summary) (Ok done)
      → Went (sinks out_before out_after audit_before audit_after) (IsDemoTold (sinks out_before out_after audit_before audit_after) app k count (Ok tt))
  told_whole summary done went put = record {
    out = put.put;
    audit = went.put;
    out_lasts = put.lasts;
    audit_lasts = went.lasts;
    out_took = put.took;
    audit_took = went.took;
    holds = record { ended = Ok summary; ends = went.holds; rose = λ is. no_fault _ summary is; told = put.is_put };
  }

  pub told_torn : (summary : Summary) (failed : Failed) → WentTo (span audit_before audit_after) (EndsTallying app k count (Ok summary))
      → IsPut {E = Failed} (span out_before out_after) (summary_line summary) (Err failed)
      → Went (sinks out_before out_after audit_before audit_after) (IsDemoTold (sinks out_before out_after audit_before audit_after) app k count (Err exits.WriteFault))
  told_torn summary failed went put = record {
    out = put.put;
    audit = went.put;
    out_lasts = put.lasts;
    audit_lasts = went.lasts;
    out_took = put.took;
    audit_took = went.took;
    holds = record { ended = Ok summary; ends = went.holds; rose = λ is. no_fault _ summary is; told = (put.is_put, put.rose) };
  }

pub told_none : (out audit_before audit_after : SinkSeen) (app : Application) (k : Span RunSeen) (count : ℕ) (exit_reason : ExitReason)
    → WentTo (span audit_before audit_after) (EndsTallying app k count (Err exit_reason))
    → (◌≡◌ {A = Result Summary ExitReason} (Err exit_reason) (Err exits.WriteFault) → Rose audit_before.faults audit_after.faults)
    → Went (sinks out out audit_before audit_after) (IsDemoTold (sinks out out audit_before audit_after) app k count (Err exit_reason))
told_none out audit_before audit_after app k count exit_reason went rose = record {
  out = [];
  audit = went.put;
  out_lasts = Lasts-none out;
  audit_lasts = went.lasts;
  out_took = Took-none out;
  audit_took = went.took;
  holds = record { ended = Err exit_reason; ends = went.holds; rose = rose; told = (refl, refl) };
}

-- The steps after the audit was aimed, seen from before.
pub told_behind : (out_before out_after audit_before audit_aimed audit_after : SinkSeen) (app : Application) (k : Span RunSeen) (count : ℕ) (result : Result (Unit {0}) ExitReason) (out audit : List ℕ)
    → audit_before.faults ≤ audit_aimed.faults → IsDemoTold (sinks out_before out_after audit_aimed audit_after) app k count result out audit
    → IsDemoTold (sinks out_before out_after audit_before audit_after) app k count result out audit
told_behind out_before out_after audit_before audit_aimed audit_after app k count result out audit later h = record {
  ended = h.ended;
  ends = h.ends;
  rose = λ is. Rose-widen _ _ _ _ later (omega arith) (h.rose is);
  told = h.told;
}

-- The audit couldn't be aimed.
pub unaimed : (out audit_before audit_after : SinkSeen) (failed : Failed) (app : Application) (k : RunSeen) (count : ℕ) → Aims audit_before audit_after None (Err failed)
    → WentAimed (sinks out out audit_before audit_after) (EndsCounting (sinks out out audit_before audit_after) app (span k k) count (Err exits.WriteFault))
unaimed out audit_before audit_after failed app k count aims = record {
  out = [];
  audit = [];
  out_lasts = Lasts-none out;
  audit_later = aims.later;
  out_took = Took-none out;
  audit_took = λ told. aims.same_held told ∙ sym (append-nil audit_before.held);
  holds = inl (record { fault = refl; rose = aims.rose; untouched = record { idle = record { no_out = refl; no_audit = refl; unaimed = aims.err; still = refl }; unsplit = refl } });
}
