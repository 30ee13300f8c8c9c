-- Serving line after line.
use Rattle.std.proofs.Common.{◌≡◌, ◌∙◌, ap, sym, subst, refl, inl, inr, ℕ, ◌+◌, ◌≤◌, ◌<◌, ◌⊎◌, true, false, Bool, IfSome, Option, Some, None, Result, Ok, Err, List, [], ◌∷◌, ◌++◌, length, append_assoc, append-nil, length-append, arith}
use denote.Ref.{Bor}
use Rattle.jac_serve_events.specs.RunSeen.{RunSeen}
use Rattle.jac_value.specs.Parts.{parts_left, option_now, length_left}
use Rattle.jac_replies.specs.declared.answer.Ask.{Ask}
use Rattle.jac_events.specs.declared.event.Event.{Event}
use Rattle.jac_events.specs.Lines.{line_of}
use Rattle.jac_hub.specs.declared.hub.Turn.TheVariants as turns
use Rattle.jac_hub.specs.Heard.{Connections, no_connections, IsBegunBy, after_both}
use Rattle.jac_hub.specs.Hub.{HubSeen, new_hub}
use Rattle.jac_hub.specs.Served.{AreLike}
use Rattle.jac_replies.specs.declared.reply.Spelling.TheVariants as spellings
use Rattle.jac_serve_events.specs.declared.outputs.EventOutcome.{EventOutcome}
use Rattle.jac_serve_events.specs.declared.outputs.WriteFailure.{WriteFailure}
use Rattle.jac_serve_events.specs.declared.serve.EventFault.{EventFault}
use Rattle.jac_serve_events.specs.declared.serve.EventFault.TheVariants as event_faults
use Rattle.jac_serve_events.specs.declared.serve.ReplayError.{ReplayError}
use Rattle.jac_serve_events.specs.declared.serve.ReplayError.TheVariants as stops
use Rattle.jac_serve_events.specs.AnswerSpec.{LogEntry, hearing, IsHeardBy, AnswerSpec, IsAnswerSpec}
use Rattle.jac_serve_events.specs.Log.{Brings, replies_text, audit_lines, audited_from}
use Rattle.jac_serve_events.specs.Outside.{Span, span, Sinks, FaultedAt, AWriteFailed}
use Rattle.jac_serve_events.specs.Script.{Script, script_from, script_of, script_step, script_event, stopped_at, with_event, event_fault_of, opened_by}
use Rattle.jac_serve_events.specs.Serve.{IsEventServed, IsEventCut, IsLastLost, IsEntryTorn, IsClosingTorn, AnswersEvent, AnswersLine, IsServed, PutsServed, PutsTorn, ServesAs, is_connection_open}
use Rattle.jac_serve_events.proofs.EntriesLemmas.{entries-still, audited-append}
use Rattle.jac_serve_events.proofs.HubLemmas.{closings_text}
use Rattle.jac_serve_events.proofs.BringsLemmas.{brings-push, brings-heard, brings-part, brings-begun, open_after}
use Rattle.jac_serve_events.proofs.OutsideLemmas.{FailsWithin, faulted_within, faulted_failed}

-- The events that were served, followed by those of the rest.
abbrev pub served_before : List Event → Script → Script
served_before events script = record { events = events ++ script.events; refused = script.refused }

-- Some lines were served, and these are left.
pub record Progress (x : AnswerSpec) (hub : HubSeen) (k : Span RunSeen) (bytes : List ℕ) (left : Option (List ℕ)) (lines served : ℕ) (out audit : List ℕ) : Type 0 where
  pub events : List Event
  pub log : List LogEntry
  pub known : Connections Ask
  pub script : served_before events (script_from (parts_left 10 left) (lines + 1) (is_connection_open known)) ≡ script_of bytes
  pub entries : x.entries k log
  pub counted : length log ≡ served
  pub like : AreLike (hearing x) hub.channels known
  pub idle : hub.turn ≡ turns.Idle
  pub out_text : Brings x no_connections 0 events log out known
  pub audit_text : audit ≡ audit_lines log

start_new : (x : AnswerSpec) (lawful : IsAnswerSpec x) (a : RunSeen) (bytes : List ℕ) → x.ready a
    → Progress x new_hub (span a a) bytes (Some bytes) 0 0 [] []
start_new x lawful a bytes starts = record {
  events = [];
  log = [];
  known = no_connections;
  script = refl;
  entries = lawful.none a starts;
  counted = refl;
  like = λ c. tt;
  idle = refl;
  out_text = (refl, refl, refl);
  audit_text = refl;
}

pub start : (x : AnswerSpec) (lawful : IsAnswerSpec x) (hub : HubSeen) (a : RunSeen) (bytes : List ℕ) → hub ≡ new_hub → x.ready a
    → Progress x hub (span a a) bytes (Some bytes) 0 0 [] []
start x lawful hub a bytes new starts =
    subst (λ (h : HubSeen). Progress x h (span a a) bytes (Some bytes) 0 0 [] []) (sym new) (start_new x lawful a bytes starts)

-- The lines that are left, by what the first of them describes.
opened : {x : AnswerSpec} {hub : HubSeen} {k : Span RunSeen} {bytes : List ℕ} {left : Option (List ℕ)} {lines served : ℕ} {out audit : List ℕ}
    (p : Progress x hub k bytes left lines served out audit) (line : List ℕ) (rest : List (List ℕ)) (written : Option (Option Event)) → parts_left 10 left ≡ line ∷ rest → line_of line ≡ written
    → served_before p.events (script_step (lines + 1) written (is_connection_open p.known) (script_from rest (lines + 1 + 1))) ≡ script_of bytes
opened {x} {hub} {k} {bytes} {left} {lines} p line rest written parts is =
    ap (λ (o : Option (Option Event)). served_before p.events (script_step (lines + 1) o (is_connection_open p.known) (script_from rest (lines + 1 + 1)))) (sym is)
    ∙ ap (λ (ls : List (List ℕ)). served_before p.events (script_from ls (lines + 1) (is_connection_open p.known))) (sym parts) ∙ p.script

-- An empty line is skipped.
pass_over : (x : AnswerSpec) (hub new : HubSeen) (a b c : RunSeen) (bytes : List ℕ) (left after : Option (List ℕ)) (lines served : ℕ) (out audit line : List ℕ)
    → Progress x hub (span a b) bytes left lines served out audit → new ≡ hub → c ≡ b
    → parts_left 10 left ≡ line ∷ parts_left 10 after → line_of line ≡ Some None → Progress x new (span a c) bytes after (lines + 1) served out audit
pass_over x hub new a b c bytes left after lines served out audit line p same still parts is = record {
  events = p.events;
  log = p.log;
  known = p.known;
  script = opened p line (parts_left 10 after) (Some None) parts is;
  entries = entries-still x a b c p.log p.entries still;
  counted = p.counted;
  like = subst (λ (h : HubSeen). AreLike (hearing x) h.channels p.known) (sym same) p.like;
  idle = ap (λ (h : HubSeen). h.turn) same ∙ p.idle;
  out_text = p.out_text;
  audit_text = p.audit_text;
}

pub served_push : (events : List Event) (event : Event) (script : Script) → served_before (events ++ event ∷ []) script ≡ served_before events (with_event event script)
served_push events event script = ap (λ (es : List Event). let s : Script = record { events = es; refused = script.refused } in s) (append_assoc events (event ∷ []) script.events)

-- The script, if the event of the next line is permitted.
allowed : {x : AnswerSpec} {hub : HubSeen} {k : Span RunSeen} {bytes : List ℕ} {left : Option (List ℕ)} {lines served : ℕ} {out audit : List ℕ}
    (p : Progress x hub k bytes left lines served out audit) (after : Option (List ℕ)) (line : List ℕ) (event : Event)
    → parts_left 10 left ≡ line ∷ parts_left 10 after → line_of line ≡ Some (Some event) → event_fault_of (lines + 1) (is_connection_open p.known) event ≡ None
    → served_before p.events (with_event event (script_from (parts_left 10 after) (lines + 1 + 1) (opened_by event (is_connection_open p.known)))) ≡ script_of bytes
allowed {x} {hub} {k} {bytes} {left} {lines} p after line event parts is none =
    ap (λ (o : Option EventFault). served_before p.events (script_event o event (script_from (parts_left 10 after) (lines + 1 + 1) (opened_by event (is_connection_open p.known))))) (sym none)
    ∙ opened p line (parts_left 10 after) (Some (Some event)) parts is

pub audited_more : (log mine : List LogEntry) (served : ℕ) (audit more : List ℕ) → length log ≡ served → audit ≡ audit_lines log → more ≡ audited_from (served + 1) mine → audit ++ more ≡ audit_lines (log ++ mine)
audited_more log mine served audit more counted is more_is =
    ap (λ (t : List ℕ). t ++ more) is
    ∙ ap (λ (t : List ℕ). audit_lines log ++ t) (more_is ∙ ap (λ (n : ℕ). audited_from n mine) (omega (arith, counted)))
    ∙ sym (audited-append 1 log mine)

-- The event of a line is served.
serve_one : (x : AnswerSpec) (lawful : IsAnswerSpec x) (hub new : HubSeen) (a b c : RunSeen) (bytes : List ℕ) (left after : Option (List ℕ)) (lines served : ℕ) (brought : EventOutcome) (out audit line o au : List ℕ) (event : Event)
    → (p : Progress x hub (span a b) bytes left lines served out audit)
    → parts_left 10 left ≡ line ∷ parts_left 10 after → line_of line ≡ Some (Some event) → event_fault_of (lines + 1) (is_connection_open p.known) event ≡ None
    → IsEventServed spellings.Quoted x new (span b c) served brought (0 + length p.events) event p.known o au
    → Progress x new (span a c) bytes after (lines + 1) brought.count (out ++ o) (audit ++ au)
serve_one x lawful hub new a b c bytes left after lines served brought out audit line o au event p parts is none s =
    let h = hearing x in
    let later = after_both h event s.mine p.known in
    record {
      events = p.events ++ event ∷ [];
      log = p.log ++ s.mine;
      known = later;
      script =
          served_push p.events event (script_from (parts_left 10 after) (lines + 1 + 1) (is_connection_open later))
          ∙ ap (λ (f : ℕ → Bool). served_before p.events (with_event event (script_from (parts_left 10 after) (lines + 1 + 1) f))) (open_after h event s.mine p.known)
          ∙ allowed p after line event parts is none;
      entries = lawful.joined a b c p.log s.mine p.entries s.entries;
      counted = let all = length-append p.log s.mine in omega (arith, all, p.counted, s.count_is);
      like = s.like;
      idle = s.idle;
      out_text =
          subst (λ (t : List ℕ). Brings x no_connections 0 (p.events ++ event ∷ []) (p.log ++ s.mine) (out ++ t) later)
          (sym (s.out_text ∙ ap (λ (t : List ℕ). replies_text s.mine ++ t) (closings_text event p.known later)))
          (brings-push x p.events no_connections p.known 0 p.log s.mine out event p.out_text s.brought_by);
      audit_text = audited_more p.log s.mine served audit au p.counted p.audit_text s.audit_text;
    }

pub nothing_more : (bytes more : List ℕ) → more ≡ [] → bytes ≡ bytes ++ more
nothing_more bytes more none = sym (append-nil bytes) ∙ ap (λ (m : List ℕ). bytes ++ m) (sym none)

no_ok : (X : Type 0) (count : ℕ) (stopped : ReplayError) → ◌≡◌ {A = Result ℕ ReplayError} (Ok count) (Err stopped) → X
no_ok X count stopped e = absurd cc

ok_same : (x y : ℕ) → ◌≡◌ {A = Result ℕ ReplayError} (Ok x) (Ok y) → x ≡ y
ok_same x y e = cc

pub go_on : (x : AnswerSpec) (lawful : IsAnswerSpec x) (hub new : HubSeen) (a b c : RunSeen) (bytes : List ℕ) (left after : Option (List ℕ)) (lines served count : ℕ) (s : Sinks) (out audit line o au : List ℕ)
    → Progress x hub (span a b) bytes left lines served out audit → parts_left 10 left ≡ line ∷ parts_left 10 after → (written : Option (Option Event)) → line_of line ≡ written
    → AnswersLine x hub new (span b c) served (lines + 1) written (Ok count) s o au
    → Progress x new (span a c) bytes after (lines + 1) count (out ++ o) (audit ++ au)
go_on x lawful hub new a b c bytes left after lines served count s out audit line o au p parts None is h = no_ok _ count _ h.0
go_on x lawful hub new a b c bytes left after lines served count s out audit line o au p parts (Some None) is h =
    subst (λ (t : List ℕ). Progress x new (span a c) bytes after (lines + 1) count (out ++ o) t) (nothing_more audit au h.3)
    (subst (λ (t : List ℕ). Progress x new (span a c) bytes after (lines + 1) count t audit) (nothing_more out o h.2)
    (subst (λ (n : ℕ). Progress x new (span a c) bytes after (lines + 1) n out audit) (sym (ok_same count served h.0))
    (pass_over x hub new a b c bytes left after lines served out audit line p h.1 h.4 parts is)))
go_on x lawful hub new a b c bytes left after lines served count s out audit line o au p parts (Some (Some event)) is h =
    let one = h (0 + length p.events) p.known p.like in
    serve_one x lawful hub new a b c bytes left after lines served (record { count = count; closed = one.1 }) out audit line o au event p parts is one.0 one.2

-- What was served of all events, whole or in part.
pub heard_by : (early : Bool) (x : AnswerSpec) (events unserved all : List Event) (log : List LogEntry) (out : List ℕ) (known : Connections Ask)
    → Brings x no_connections 0 events log out known → all ≡ events ++ unserved → (early ≡ false → unserved ≡ []) → IsHeardBy early (hearing x) all log
heard_by false x events unserved all log out known brings parts whole =
    subst (λ (es : List Event). IsHeardBy false (hearing x) es log) (sym (parts ∙ ap (λ (es : List Event). events ++ es) (whole refl) ∙ append-nil events))
    (brings-heard x events no_connections known 0 log out brings)
heard_by true x events unserved all log out known brings parts whole =
    subst (λ (es : List Event). IsHeardBy true (hearing x) es log) (sym parts) (brings-part x events unserved no_connections known 0 log out brings)

pub is_served_by : (early : Bool) (x : AnswerSpec) (a b : RunSeen) (all : List Event) (log : List LogEntry) → IsHeardBy early (hearing x) all log → x.entries (span a b) log
    → IsServed early x (span a b) all log
is_served_by early x a b all log heard entries = record {
  subjects = heard;
  entries = entries;
}

-- The lines so far were put, and nothing more.
finish_with : (early : Bool) (x : AnswerSpec) (hub : HubSeen) (a b c : RunSeen) (bytes : List ℕ) (left : Option (List ℕ)) (lines served : ℕ) (out audit : List ℕ) (unserved : List Event)
    → (p : Progress x hub (span a b) bytes left lines served out audit) → c ≡ b → (script_of bytes).events ≡ p.events ++ unserved → (early ≡ false → unserved ≡ [])
    → PutsServed early x (span a c) (script_of bytes) out audit
finish_with early x hub a b c bytes left lines served out audit unserved p still parts whole = record {
  events = p.events;
  unserved = unserved;
  log = p.log;
  later = p.known;
  parts = parts;
  ended = whole;
  served =
      is_served_by early x a c (script_of bytes).events p.log
      (heard_by early x p.events unserved (script_of bytes).events p.log out p.known p.out_text parts whole) (entries-still x a b c p.log p.entries still);
  out_text = p.out_text;
  audit_text = p.audit_text;
}

-- A line is refused.
finish_refused : (x : AnswerSpec) (hub : HubSeen) (a b c : RunSeen) (bytes : List ℕ) (left : Option (List ℕ)) (lines served : ℕ) (s : Sinks) (out audit o au : List ℕ) (event_fault : EventFault)
    → (p : Progress x hub (span a b) bytes left lines served out audit) → served_before p.events (stopped_at event_fault) ≡ script_of bytes → o ≡ [] → au ≡ [] → c ≡ b
    → ServesAs x (span a c) bytes (Err (stops.Refused event_fault)) s (out ++ o) (audit ++ au)
finish_refused x hub a b c bytes left lines served s out audit o au event_fault p script no_out no_audit still = (
  ap (λ (s : Script). s.refused) (sym script),
  subst (λ (t : List ℕ). PutsServed false x (span a c) (script_of bytes) (out ++ o) t) (nothing_more audit au no_audit)
      (subst (λ (t : List ℕ). PutsServed false x (span a c) (script_of bytes) t audit) (nothing_more out o no_out)
      (finish_with false x hub a b c bytes left lines served out audit [] p still (ap (λ (s : Script). s.events) (sym script)) (λ is. refl))),
)

refused_same : (x y : EventFault) → ◌≡◌ {A = Result ℕ ReplayError} (Err (stops.Refused x)) (Err (stops.Refused y)) → x ≡ y
refused_same x y e = cc

write_other : (X : Type 0) (y : EventFault) → ◌≡◌ {A = Result ℕ ReplayError} (Err stops.Write) (Err (stops.Refused y)) → X
write_other X y e = absurd cc

refused_other : (X : Type 0) (x : ReplayError) (n : ℕ) → ◌≡◌ {A = Result ℕ ReplayError} (Err x) (Ok n) → X
refused_other X x n e = absurd cc

pub early_is_not_whole : {X : Type 0} → true ≡ false → X
early_is_not_whole is = absurd cc

torn_at : (x : AnswerSpec) (served n : ℕ) (event : Event) (known : Connections Ask) (mine : List LogEntry) (s : Sinks) (o au : List ℕ) (count place : ℕ) → served ≡ count → n ≡ place
    → IsEntryTorn served mine s o au ⊎ IsClosingTorn x served n event known mine s o au
    → IsEntryTorn count mine s o au ⊎ IsClosingTorn x count place event known mine s o au
torn_at x served n event known mine s o au count place same at h =
    subst (λ (m : ℕ). IsEntryTorn count mine s o au ⊎ IsClosingTorn x count m event known mine s o au) at
    (subst (λ (m : ℕ). IsEntryTorn m mine s o au ⊎ IsClosingTorn x m n event known mine s o au) same h)

-- What was torn by a part was torn by the whole.
module _ (x : AnswerSpec) (served n : ℕ) (event : Event) (known : Connections Ask) (mine : List LogEntry) (o au : List ℕ) (all part : Sinks) (within : FailsWithin all part) where
  both_within : IsEntryTorn served mine part o au ⊎ IsClosingTorn x served n event known mine part o au → IsEntryTorn served mine all o au ⊎ IsClosingTorn x served n event known mine all o au
  both_within (inl h) = inl (h.0, h.1, faulted_within all part h.0 within h.2)
  both_within (inr h) = inr (record {
    out_torn = h.out_torn;
    fault = within.out h.fault;
    some = h.some;
    brought = h.brought;
    torn = h.torn;
    out_text = h.out_text;
    audit_text = h.audit_text;
  })

  both_failed : IsEntryTorn served mine all o au ⊎ IsClosingTorn x served n event known mine all o au → AWriteFailed all
  both_failed (inl h) = faulted_failed all h.0 h.2
  both_failed (inr h) = inl h.fault

pub puts_torn_within : (x : AnswerSpec) (k : Span RunSeen) (script : Script) (all part : Sinks) (out audit : List ℕ) → FailsWithin all part → PutsTorn x k script part out audit
    → PutsTorn x k script all out audit
puts_torn_within x k script all part out audit within h = record {
  events = h.events;
  event = h.event;
  unserved = h.unserved;
  log = h.log;
  mine = h.mine;
  known = h.known;
  text = h.text;
  out_more = h.out_more;
  audit_more = h.audit_more;
  parts = h.parts;
  served = h.served;
  brought = h.brought;
  begun = h.begun;
  torn = both_within x (length h.log) (length h.events) h.event h.known h.mine h.out_more h.audit_more all part within h.torn;
  out_text = h.out_text;
  audit_text = h.audit_text;
}

pub puts_torn_failed : (x : AnswerSpec) (k : Span RunSeen) (script : Script) (s : Sinks) (out audit : List ℕ) → PutsTorn x k script s out audit → AWriteFailed s
puts_torn_failed x k script s out audit h =
    both_failed x (length h.log) (length h.events) h.event h.known h.mine h.out_more h.audit_more s s (record { out = λ rose. rose; audit = λ rose. rose }) h.torn

torn_lines : (x : AnswerSpec) (served : ℕ) (cut : WriteFailure) (n : ℕ) (event : Event) (known : Connections Ask) (mine : List LogEntry) (s : Sinks) (o au : List ℕ) → FaultedAt cut.lost s
    → (IsLastLost spellings.Quoted cut.lost served mine o au × (cut.count ≡ served + length mine)) ⊎ ((spellings.Quoted ≡ spellings.Quoted) × IsClosingTorn x served n event known mine s o au)
    → IsEntryTorn served mine s o au ⊎ IsClosingTorn x served n event known mine s o au
torn_lines x served cut n event known mine s o au fault (inl h) = inl (cut.lost, h.0, fault)
torn_lines x served cut n event known mine s o au fault (inr h) = inr h.1

none_before : (n : ℕ) → 0 + n ≡ n
none_before n = omega arith

-- A put failed.
finish_torn : (x : AnswerSpec) (lawful : IsAnswerSpec x) (hub : HubSeen) (a b c : RunSeen) (bytes : List ℕ) (left after : Option (List ℕ)) (lines served : ℕ) (cut : WriteFailure) (all part : Sinks) (out audit line o au : List ℕ) (event : Event)
    → FailsWithin all part → (p : Progress x hub (span a b) bytes left lines served out audit)
    → parts_left 10 left ≡ line ∷ parts_left 10 after → line_of line ≡ Some (Some event) → event_fault_of (lines + 1) (is_connection_open p.known) event ≡ None
    → IsEventCut spellings.Quoted x (span b c) served cut (0 + length p.events) event p.known part o au
    → PutsTorn x (span a c) (script_of bytes) all (out ++ o) (audit ++ au)
finish_torn x lawful hub a b c bytes left after lines served cut sinks part out audit line o au event within p parts is none t =
    let unserved = (script_from (parts_left 10 after) (lines + 1 + 1) (opened_by event (is_connection_open p.known))).events in
    let all : (script_of bytes).events ≡ p.events ++ event ∷ unserved = ap (λ (s : Script). s.events) (sym (allowed p after line event parts is none)) in
    record {
      events = p.events;
      event = event;
      unserved = unserved;
      log = p.log;
      mine = t.mine;
      known = p.known;
      text = out;
      out_more = o;
      audit_more = au;
      parts = all;
      served =
          is_served_by true x a c (script_of bytes).events (p.log ++ t.mine)
          (subst (λ (es : List Event). IsHeardBy true (hearing x) es (p.log ++ t.mine)) (sym all)
          (brings-begun x p.events unserved event no_connections p.known 0 p.log t.mine out p.out_text t.begun))
          (lawful.joined a b c p.log t.mine p.entries t.entries);
      brought = p.out_text;
      begun = subst (λ (n : ℕ). IsBegunBy (hearing x) n event p.known t.mine) (none_before (length p.events)) t.begun;
      torn = torn_at x served (0 + length p.events) event p.known t.mine sinks o au (length p.log) (length p.events) (sym p.counted) (none_before (length p.events))
          (both_within x served (0 + length p.events) event p.known t.mine o au sinks part within
          (torn_lines x served cut (0 + length p.events) event p.known t.mine part o au t.fault t.torn));
      out_text = refl;
      audit_text = ap (λ (x : List ℕ). x ++ au) p.audit_text;
    }

pub stop_at : (x : AnswerSpec) (lawful : IsAnswerSpec x) (hub new : HubSeen) (a b c : RunSeen) (bytes : List ℕ) (left after : Option (List ℕ)) (lines served : ℕ) (all part : Sinks) (out audit line o au : List ℕ)
    → FailsWithin all part → Progress x hub (span a b) bytes left lines served out audit → parts_left 10 left ≡ line ∷ parts_left 10 after → (written : Option (Option Event)) → line_of line ≡ written → (stopped : ReplayError)
    → AnswersLine x hub new (span b c) served (lines + 1) written (Err stopped) part o au
    → ServesAs x (span a c) bytes (Err stopped) all (out ++ o) (audit ++ au)
stop_at x lawful hub new a b c bytes left after lines served all part out audit line o au within p parts written is stops.Memory h =
    subst (λ (t : List ℕ). PutsServed true x (span a c) (script_of bytes) (out ++ o) t) (nothing_more audit au h.1)
    (subst (λ (t : List ℕ). PutsServed true x (span a c) (script_of bytes) t audit) (nothing_more out o h.0)
    (finish_with true x hub a b c bytes left lines served out audit _ p h.2 (ap (λ (s : Script). s.events) (sym p.script)) early_is_not_whole))
stop_at x lawful hub new a b c bytes left after lines served all part out audit line o au within p parts None is (stops.Refused event_fault) h =
    finish_refused x hub a b c bytes left lines served all out audit o au event_fault p
    (ap (λ (l : EventFault). served_before p.events (stopped_at l)) (refused_same event_fault (event_faults.NoForm (lines + 1)) h.0) ∙ opened p line (parts_left 10 after) None parts is)
    h.1 h.2 h.3
stop_at x lawful hub new a b c bytes left after lines served all part out audit line o au within p parts (Some None) is (stops.Refused event_fault) h = refused_other _ (stops.Refused event_fault) served h.0
stop_at x lawful hub new a b c bytes left after lines served all part out audit line o au within p parts (Some (Some event)) is (stops.Refused event_fault) h =
    finish_refused x hub a b c bytes left lines served all out audit o au event_fault p
    (ap (λ (l : Option EventFault). served_before p.events (script_event l event (script_from (parts_left 10 after) (lines + 1 + 1) (opened_by event (is_connection_open p.known))))) (sym (h.0 p.known p.like))
    ∙ opened p line (parts_left 10 after) (Some (Some event)) parts is)
    h.1 h.2 h.3
stop_at x lawful hub new a b c bytes left after lines served all part out audit line o au within p parts None is stops.Write h = write_other _ (event_faults.NoForm (lines + 1)) h.0
stop_at x lawful hub new a b c bytes left after lines served all part out audit line o au within p parts (Some None) is stops.Write h = refused_other _ stops.Write served h.0
stop_at x lawful hub new a b c bytes left after lines served all part out audit line o au within p parts (Some (Some event)) is stops.Write h =
    let one = h (0 + length p.events) p.known p.like in
    finish_torn x lawful hub a b c bytes left after lines served one.1 all part out audit line o au event within p parts is one.0 one.2

-- No line is left.
pub finish_left : (x : AnswerSpec) (hub : HubSeen) (a b : RunSeen) (bytes : List ℕ) (left : Option (Bor (List ℕ))) (lines served : ℕ) (s : Sinks) (out audit : List ℕ)
    → ((rest : Bor (List ℕ)) → left ≡ Some rest → ⊥) → Progress x hub (span a b) bytes (option_now left) lines served out audit
    → ServesAs x (span a b) bytes (Ok tt) s out audit
finish_left x hub a b bytes None lines served s out audit none p = (
  ap (λ (s : Script). s.refused) (sym p.script),
  finish_with false x hub a b b bytes None lines served out audit [] p refl (ap (λ (s : Script). s.events) (sym p.script)) (λ is. refl),
)
finish_left x hub a b bytes (Some rest) lines served s out audit none p = absurd (none rest refl)

pub shorter_left : (after : Option (Bor (List ℕ))) (n : ℕ) → IfSome after (λ rest. length rest.now < n) → length_left (option_now after) ≤ n
shorter_left None n h = omega arith
shorter_left (Some rest) n h = omega (arith, h)

-- The answer to an event is the answer to its line.
pub event_line : (x : AnswerSpec) (hub new : HubSeen) (k : Span RunSeen) (served line : ℕ) (event : Event) (result : Result ℕ ReplayError) (s : Sinks) (out audit : List ℕ)
    → AnswersEvent x hub new k served line event result s out audit → AnswersLine x hub new k served line (Some (Some event)) result s out audit
event_line x hub new k served line event (Ok count) s out audit h = h
event_line x hub new k served line event (Err (stops.Refused event_fault)) s out audit h = h
event_line x hub new k served line event (Err stops.Memory) s out audit h = h
event_line x hub new k served line event (Err stops.Write) s out audit h = h

pub line_empty : (x : AnswerSpec) (hub : HubSeen) (k : RunSeen) (served line : ℕ) (s : Sinks) (written : Option (Option Event)) → written ≡ Some None
    → AnswersLine x hub hub (span k k) served line written (Ok served) s [] []
line_empty x hub k served line s written is =
    subst (λ (w : Option (Option Event)). AnswersLine x hub hub (span k k) served line w (Ok served) s [] []) (sym is) (refl, refl, refl, refl, refl)

pub line_formless : (x : AnswerSpec) (hub : HubSeen) (k : RunSeen) (served line : ℕ) (s : Sinks) (written : Option (Option Event)) → written ≡ None
    → AnswersLine x hub hub (span k k) served line written (Err (stops.Refused (event_faults.NoForm line))) s [] []
line_formless x hub k served line s written is =
    subst (λ (w : Option (Option Event)). AnswersLine x hub hub (span k k) served line w (Err (stops.Refused (event_faults.NoForm line))) s [] []) (sym is) (refl, refl, refl, refl)

pub line_event : (x : AnswerSpec) (hub new : HubSeen) (k : Span RunSeen) (served line : ℕ) (event : Event) (written : Option (Option Event)) (result : Result ℕ ReplayError) (s : Sinks) (out audit : List ℕ)
    → written ≡ Some (Some event) → AnswersEvent x hub new k served line event result s out audit → AnswersLine x hub new k served line written result s out audit
line_event x hub new k served line event written result s out audit is h =
    subst (λ (w : Option (Option Event)). AnswersLine x hub new k served line w result s out audit) (sym is)
    (event_line x hub new k served line event result s out audit h)
