-- Two replays whose audits are the same bytes write the same replies.
use Rattle.std.proofs.Common.{◌≡◌, ◌∙◌, ap, sym, subst, refl, ℕ, Bool, true, List, [], ◌∷◌, map}
use Rattle.jac_world.specs.World.{shown_by}
use Rattle.jac_lang.specs.Syntax.{Application}
use Rattle.jac_rows.specs.declared.state.State.{State}
use Rattle.jac_events.specs.declared.event.Event.{Event}
use Rattle.jac_hub.specs.Hearing.{Source}
use Rattle.jac_hub.specs.Heard.{no_connections}
use Rattle.jac_route.specs.declared.sessions.Session.{Session}
use Rattle.jac_serve_events.specs.AnswerSpec.{LogSubject, LogEntry}
use Rattle.jac_serve_events.specs.Log.{Brings}
use Rattle.jac_dispatch.specs.Answered.{answer_spec_of}
use Rattle.jac_cli.specs.declared.words.Replay.{Replay}
use Rattle.jac_noninterference.specs.TwoRuns.{OneRun, LookSame, seen_entry, seen_by, labels_of, LookSameFor}
use Rattle.jac_run_laws.specs.Replayed.{TopRun, IsReplayed, TellsNoFailure, TellsPage, HaveSmallLabels}
use Rattle.jac_run_laws.proofs.AuditLines.{none_failed, looks_same, labels_by_text}
use Rattle.jac_run_laws.proofs.OneText.{one_text, brings_seen}
use Rattle.jac_noninterference.proofs.SideBySide.{views_agree}

-- An observer who sees each entry.
abbrev pub each_entry : Source → LogSubject → Bool
each_entry source subject = true

seen_all : (log : List LogEntry) → seen_by each_entry log ≡ map seen_entry log
seen_all [] = refl
seen_all (entry ∷ log) = ap (λ (l : List LogEntry). seen_entry entry ∷ l) (seen_all log)

labels_all : (log : List LogEntry) → labels_of (seen_by each_entry log) ≡ labels_of log
labels_all [] = refl
labels_all (entry ∷ log) = λ i. entry.answer.shown ∷ labels_all log i

looks_all : (start other : State) (log : List LogEntry) → LookSameFor start other log → LookSameFor start other (seen_by each_entry log)
looks_all start other [] looks = tt
looks_all start other (entry ∷ log) looks = (looks.0, looks_all start other log looks.1)

pub bytes_agree : {L M : Type 0} (replay : Replay) (one : TopRun L) (two : TopRun M) (app : Application) (sessions : List Session) (events : List Event)
    (first second : OneRun) (out out' audit : List ℕ) → IsReplayed replay one app sessions events first out audit
    → IsReplayed replay two app sessions events second out' audit → TellsNoFailure audit
    → ((labels : List ℕ) → TellsPage audit labels → LookSame (shown_by labels) first.start second.start)
    → HaveSmallLabels first.log → HaveSmallLabels second.log → out ≡ out'
bytes_agree replay one two app sessions events first second out out' audit is is' quiet look small small' =
    let x = answer_spec_of replay.lazy app sessions in
    let none = none_failed first.log (subst TellsNoFailure is.audit_is quiet) in
    let none' = none_failed second.log (subst TellsNoFailure is'.audit_is quiet) in
    let labels = labels_by_text 1 first.log second.log (sym is.audit_is ∙ is'.audit_is) small small' in
    let looks = looks_same first.start second.start first.log (λ labels tells. look labels (subst (λ (a : List ℕ). TellsPage a labels) (sym is.audit_is) tells)) in
    let seen = views_agree app sessions events first second is.served is'.served each_entry (record {
      whole = is.whole;
      whole_too = is'.whole;
      none_failed = none;
      none_failed_too = none';
      labels = labels_all first.log ∙ labels ∙ sym (labels_all second.log);
      starts = looks_all first.start second.start first.log looks;
    }) in
    let log : map seen_entry first.log ≡ map seen_entry second.log = sym (seen_all first.log) ∙ seen ∙ seen_all second.log in
    let text = brings_seen x no_connections 0 events first.log out is.brought.0 is.brought.1 in
    let text' = brings_seen x no_connections 0 events second.log out' is'.brought.0 is'.brought.1 in
    let moved = subst (λ (l : List LogEntry). Brings x no_connections 0 events l out' is'.brought.0) (sym log) text' in
    one_text x no_connections 0 events (map seen_entry first.log) out out' is.brought.0 is'.brought.0 text moved
