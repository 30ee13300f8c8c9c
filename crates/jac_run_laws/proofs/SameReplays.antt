-- Two replays of the same words over files with the same contents read the same.
use Rattle.std.proofs.Common.{◌≡◌, ◌∙◌, ap, sym, subst, ℕ, Ok, Option, Some, None, List}
use Rattle.jac_lang.specs.Syntax.{Application}
use Rattle.jac_app_load.specs.Application.{IsApplication}
use Rattle.jac_app_text_laws.proofs.OneSpelled.{one_spelled}
use Rattle.jac_events.specs.declared.event.Event.{Event}
use Rattle.jac_route.specs.declared.sessions.Session.{Session}
use Rattle.jac_route.specs.Sessions.{sessions_in}
use Rattle.jac_serve_events.specs.Script.{script_of}
use Rattle.jac_cli.specs.declared.words.Command.TheVariants as commands
use Rattle.jac_cli.specs.declared.words.Replay.{Replay}
use Rattle.jac_cli.specs.Words.{command_of}
use Rattle.jac_run_laws.specs.Replayed.{TopRun, IsTopRun, IsToldToEnd, HoldSessions, HoldReplay, IsReplayed, HasReplayed, HaveReplayed}
use Rattle.jac_noninterference.specs.TwoRuns.{OneRun}
use Rattle.jac_run_laws.proofs.Replays.{has_replayed}

pub same_bytes : (one two : List ℕ) (o : Option (List ℕ)) → o ≡ Some one → o ≡ Some two → one ≡ two
same_bytes one two o is is' = let same : Some one ≡ Some two = sym is ∙ is' in cc

same_sessions : (bytes : List ℕ) (one two : List Session) → sessions_in bytes ≡ Ok one → sessions_in bytes ≡ Ok two → one ≡ two
same_sessions bytes one two is is' = let same = sym is ∙ is' in cc

-- Files of the same name have the same contents.
abbrev pub AreSameFiles : (List ℕ → Option (List ℕ)) → (List ℕ → Option (List ℕ)) → Type 0
AreSameFiles file other = (name : List ℕ) → file name ≡ other name

pub one_sessions : (file : List ℕ → Option (List ℕ)) (name : Option (List ℕ)) (one two : List Session)
    → HoldSessions file name one → HoldSessions file name two → one ≡ two
one_sessions file None one two is is' = is ∙ sym is'
one_sessions file (Some name) one two (bytes, file_is, listed) (other, file_is', listed') =
    let same = same_bytes bytes other (file name) file_is file_is' in
    same_sessions other one two (subst (λ (b : List ℕ). sessions_in b ≡ Ok one) same listed) listed'

-- The files of a replay contain only one application, one list of sessions and one list of events.
pub record IsSameReplay (app other : Application) (sessions others : List Session) (events more : List Event) : Type 0 where
  pub application : app ≡ other
  pub sessions_same : sessions ≡ others
  pub events_same : events ≡ more

one_replay : (file : List ℕ → Option (List ℕ)) (replay : Replay) (app other : Application) (sessions others : List Session) (events more : List Event)
    → HoldReplay file replay app sessions events → HoldReplay file replay other others more → IsSameReplay app other sessions others events more
one_replay file replay app other sessions others events more is is' =
    let text = same_bytes is.app_bytes is'.app_bytes (file replay.app) is.app_file is'.app_file in
    let lines = same_bytes is.event_bytes is'.event_bytes (file replay.events) is.events_file is'.events_file in
    record {
      application = one_spelled is'.app_bytes app other (subst (λ (b : List ℕ). IsApplication b app) text is.spelled) is'.spelled;
      sessions_same = one_sessions file replay.sessions sessions others is.sessions_held is'.sessions_held;
      events_same = sym is.events_are ∙ ap (λ (b : List ℕ). (script_of b).events) lines ∙ is'.events_are;
    }

other_files : (file other : List ℕ → Option (List ℕ)) (replay : Replay) (app : Application) (sessions : List Session) (events : List Event)
    → AreSameFiles file other → HoldReplay other replay app sessions events → HoldReplay file replay app sessions events
other_files file other replay app sessions events same held =
    let path : file ≡ other = λ i name. same name i in
    subst (λ (f : List ℕ → Option (List ℕ)). HoldReplay f replay app sessions events) (sym path) held

-- A replay of the same application, sessions and events.
replay_moved : {L : Type 0} (replay : Replay) (top : TopRun L) (app other : Application) (sessions others : List Session) (events more : List Event) (run : OneRun) (out audit : List ℕ)
    → IsSameReplay app other sessions others events more → IsReplayed replay top other others more run out audit → IsReplayed replay top app sessions events run out audit
replay_moved replay top app other sessions others events more run out audit same is =
    let first = subst (λ (a : Application). IsReplayed replay top a others more run out audit) (sym same.application) is in
    let second = subst (λ (s : List Session). IsReplayed replay top app s more run out audit) (sym same.sessions_same) first in
    subst (λ (e : List Event). IsReplayed replay top app sessions e run out audit) (sym same.events_same) second

both_replayed : {L M : Type 0} (replay : Replay) (one : TopRun L) (two : TopRun M) → AreSameFiles one.seen.files.before.file two.seen.files.before.file
    → HasReplayed replay one → HasReplayed replay two → HaveReplayed replay one two
both_replayed replay one two files is is' =
    let held = other_files one.seen.files.before.file two.seen.files.before.file replay is'.app is'.sessions is'.events files is'.held in
    let same = one_replay one.seen.files.before.file replay is.app is'.app is.sessions is'.sessions is.events is'.events is.held held in
    record {
      app = is.app;
      sessions = is.sessions;
      events = is.events;
      first = is.run;
      second = is'.run;
      first_out = is.out;
      first_audit = is.audit;
      second_out = is'.out;
      second_audit = is'.audit;
      held = is.held;
      replayed = is.replayed;
      replayed_too = replay_moved replay two is.app is'.app is.sessions is'.sessions is.events is'.events is'.run is'.out is'.audit same is'.replayed;
    }

pub have_replayed : {L M : Type 0} (words : List (List ℕ)) (replay : Replay) (one : TopRun L) (two : TopRun M)
    → IsTopRun words one → IsTopRun words two → command_of words ≡ Some (commands.Replay replay) → IsToldToEnd one → IsToldToEnd two
    → AreSameFiles one.seen.files.before.file two.seen.files.before.file → HaveReplayed replay one two
have_replayed words replay one two ran ran' is_replay told told' files =
    both_replayed replay one two files (has_replayed words replay one ran is_replay told) (has_replayed words replay two ran' is_replay told')
