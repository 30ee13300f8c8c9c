-- Logs whose audits are the same bytes, and which have the same text or the same events.
use Rattle.std.proofs.Common.{◌≡◌, ◌∙◌, sym, subst, ℕ, Bool, true, false, List, [], ◌∷◌}
use Rattle.jac_lang.specs.Syntax.{Application}
use Rattle.jac_events.specs.declared.event.Event.{Event}
use Rattle.jac_hub.specs.Heard.{no_connections}
use Rattle.jac_route.specs.declared.sessions.Session.{Session}
use Rattle.jac_serve_events.specs.AnswerSpec.{LogEntry}
use Rattle.jac_serve_events.specs.Log.{audit_lines}
use Rattle.jac_cli.specs.declared.words.Replay.{Replay}
use Rattle.jac_dispatch.specs.Answered.{answer_spec_of}
use Rattle.jac_noninterference.specs.TwoRuns.{OneRun, IsRunServed, HaveSameSubjects}
use Rattle.jac_noninterference.proofs.SideBySide.{subjects_agree}
use Rattle.jac_run_laws.specs.Replayed.{TopRun, IsReplayed, TellsNoFailure}
use Rattle.jac_run_laws.specs.Audited.{HaveSmallNumbers, HaveSmallSources, AreAuditedAlike, AreToldAlike}
use Rattle.jac_run_laws.proofs.AuditLines.{none_failed, entries_by_text}
use Rattle.jac_run_laws.proofs.TextLines.{brought_lines, told_by_text}

pub texts_fix_entries : {L M : Type 0} (replay again : Replay) (one : TopRun L) (two : TopRun M) (app app' : Application) (sessions sessions' : List Session) (events events' : List Event)
    (first second : OneRun) (out audit : List ℕ) → IsReplayed replay one app sessions events first out audit → IsReplayed again two app' sessions' events' second out audit
    → HaveSmallNumbers first.log → HaveSmallNumbers second.log → HaveSmallSources first.log → HaveSmallSources second.log → AreToldAlike first.log second.log
texts_fix_entries replay again one two app app' sessions sessions' events events' first second out audit is is' small small' few few' =
    let alike = entries_by_text 1 first.log second.log small small' (sym is.audit_is ∙ is'.audit_is) in
    let lines = brought_lines (answer_spec_of replay.lazy app sessions) no_connections 0 events first.log out is.brought.0 is.brought.1 in
    let lines' = brought_lines (answer_spec_of again.lazy app' sessions') no_connections 0 events' second.log out is'.brought.0 is'.brought.1 in
    told_by_text first.log second.log out lines lines' few few' alike

with_sources : (early early' : Bool) (log others : List LogEntry) → HaveSameSubjects early early' log others → AreAuditedAlike log others → AreToldAlike log others
with_sources early early' [] [] asked alike = tt
with_sources early early' [] (two ∷ others) asked alike = absurd alike
with_sources early early' (one ∷ log) [] asked alike = absurd alike
with_sources early early' (one ∷ log) (two ∷ others) asked alike = (asked.0.source, alike.0, with_sources early early' log others asked.1 alike.1)

pub audits_fix_sources : (app : Application) (sessions : List Session) (events : List Event) (one two : OneRun) → IsRunServed app sessions events one → IsRunServed app sessions events two
    → audit_lines one.log ≡ audit_lines two.log → TellsNoFailure (audit_lines one.log) → HaveSmallNumbers one.log → HaveSmallNumbers two.log → AreToldAlike one.log two.log
audits_fix_sources app sessions events one two served served' same quiet small small' =
    let none = none_failed one.log quiet in
    let none' = none_failed two.log (subst TellsNoFailure same quiet) in
    with_sources one.early two.early one.log two.log (subjects_agree app sessions events one two served served' none none')
    (entries_by_text 1 one.log two.log small small' same)
