-- The log of connections that were served one after another is faithful.
use Rattle.std.proofs.Common.{◌≡◌, ◌∙◌, ap, sym, subst, refl, arith, ℕ, ◌+◌, Bool, IsTrue, Some, List, [], ◌∷◌, ◌++◌, length}
use Rattle.jac_io.specs.Linked.{LinkSeen}
use Rattle.jac_lang.specs.Syntax.{Application}
use Rattle.jac_rows.specs.Project.{project_at}
use Rattle.jac_rows.specs.declared.plain.PlainState.{PlainState}
use Rattle.jac_rows.specs.declared.state.State.{State}
use Rattle.jac_plain.specs.Requests.{Worlds}
use Rattle.jac_plain.specs.Shown.{worlds_of}
use Rattle.jac_route.specs.declared.sessions.Session.{Session}
use Rattle.jac_serve_events.specs.AnswerSpec.{LogEntry}
use Rattle.jac_serve_events.specs.RunSeen.{Grew, RunSeen, run_seen_of, run_seen_with}
use Rattle.jac_serve_events.specs.Log.{audit_lines}
use Rattle.jac_serve_events.specs.Outside.{span}
use Rattle.jac_connections.specs.Door.{LinkVisit, AreVisited}
use Rattle.jac_cli.specs.declared.words.Command.TheVariants as commands
use Rattle.jac_cli.specs.declared.words.ServeArgs.{ServeArgs}
use Rattle.jac_cli.specs.Words.{command_of}
use Rattle.jac_dispatch.specs.Answered.{answer_spec_of, AreEntries}
use Rattle.jac_dispatch.specs.Log.{AreAnswered, after_entry, after_log, faults_in}
use Rattle.jac_run_laws.specs.Doors.{HasServed, IsDoorServed}
use Rattle.jac_run_laws.specs.Replayed.{TopRun, IsTopRun, IsToldToEnd, counts_of}
use Rattle.jac_run_laws.proofs.DoorRuns.{has_served}
use Rattle.jac_headline.specs.Headline.{HasServedFaithfully}
use Rattle.jac_headline.proofs.RightAnswers.{faithful_log}

answered_append : (lazy : Bool) (app : Application) (worlds : Worlds) (log others : List LogEntry) → AreAnswered lazy app worlds log
    → AreAnswered lazy app (λ w. after_log w app log (worlds w)) others → AreAnswered lazy app worlds (log ++ others)
answered_append lazy app worlds [] others answered more = more
answered_append lazy app worlds (entry ∷ log) others answered more =
    (answered.0, answered_append lazy app (λ w. after_entry w app entry (worlds w)) log others answered.1 more)

after_append : (w : ℕ → Bool) (app : Application) (log others : List LogEntry) (t : PlainState)
    → after_log w app others (after_log w app log t) ≡ after_log w app (log ++ others) t
after_append w app [] others t = refl
after_append w app (entry ∷ log) others t = after_append w app log others (after_entry w app entry t)

faults_append : (log others : List LogEntry) → faults_in (log ++ others) ≡ faults_in log + faults_in others
faults_append [] others = omega arith
faults_append (entry ∷ log) others = omega (arith, faults_append log others)

grew_then : (before between after one two : ℕ) → Grew before one between → Grew between two after → Grew before (one + two) after
grew_then before between after one two first second = omega (arith, first, second)

-- What was answered from one state to another, if the contents of the keeper are known at the end.
pub record AreAnsweredOn (lazy : Bool) (app : Application) (before after : RunSeen) (log : List LogEntry) : Type 0 where
  pub told : IsTrue before.keeper.tells
  pub answered : AreAnswered lazy app (worlds_of before.keeper.state) log
  pub worlds : (w : ℕ → Bool) → project_at w after.keeper.state ≡ after_log w app log (project_at w before.keeper.state)
  pub faults : Grew before.keeper.faults (faults_in log) after.keeper.faults

entries_on : (lazy : Bool) (app : Application) (before after : RunSeen) (log : List LogEntry) → AreEntries lazy app (span before after) log
    → IsTrue after.keeper.tells → AreAnsweredOn lazy app before after log
entries_on lazy app before after log entries told =
    record { told = entries.told told; answered = entries.answered told; worlds = entries.worlds told; faults = entries.faults }

none_on : (lazy : Bool) (app : Application) (before : RunSeen) → IsTrue before.keeper.tells → AreAnsweredOn lazy app before before []
none_on lazy app before told = record { told = told; answered = tt; worlds = λ w. refl; faults = omega arith }

joined_on : (lazy : Bool) (app : Application) (before between after : RunSeen) (log others : List LogEntry) → AreAnsweredOn lazy app before between log
    → AreAnsweredOn lazy app between after others → AreAnsweredOn lazy app before after (log ++ others)
joined_on lazy app before between after log others one two =
    let same : ◌≡◌ {A = Worlds} (worlds_of between.keeper.state) (λ w. after_log w app log (project_at w before.keeper.state)) = λ i w. one.worlds w i in
    record {
      told = one.told;
      answered =
          answered_append lazy app (worlds_of before.keeper.state) log others one.answered
          (subst (λ (ws : Worlds). AreAnswered lazy app ws others) same two.answered);
      worlds = λ w.
          two.worlds w ∙ ap (λ (t : PlainState). after_log w app others t) (one.worlds w)
          ∙ after_append w app log others (project_at w before.keeper.state);
      faults =
          subst (λ (n : ℕ). Grew before.keeper.faults n after.keeper.faults) (sym (faults_append log others))
          (grew_then before.keeper.faults between.keeper.faults after.keeper.faults (faults_in log) (faults_in others) one.faults two.faults);
    }

pub visits_on : {L : Type 0} (line : L → LinkSeen) (lazy : Bool) (app : Application) (sessions : List Session) (c first : ℕ) (before after : RunSeen)
    (visits : List (LinkVisit L)) (log : List LogEntry) (audit : List ℕ) → AreVisited line (answer_spec_of lazy app sessions) c first before visits log audit after
    → IsTrue after.keeper.tells → AreAnsweredOn lazy app before after log
visits_on line lazy app sessions c first before after [] log audit (none, silent, same) told =
    let still = subst (λ (k : RunSeen). IsTrue k.keeper.tells) same told in
    let here = subst (λ (k : RunSeen). AreAnsweredOn lazy app before k []) (sym same) (none_on lazy app before still) in
    subst (λ (l : List LogEntry). AreAnsweredOn lazy app before after l) (sym none) here
visits_on line lazy app sessions c first before after (visit ∷ visits) log audit (between, mine, lines, others, more, visited, parts, text, rest) told =
    let later = visits_on line lazy app sessions (c + 1) (first + length mine) between after visits others more rest told in
    let here = subst (λ (l : List LogEntry). AreAnsweredOn lazy app before between l) visited.entries
    (entries_on lazy app before between visited.served.log visited.served.served.entries later.told) in
    subst (λ (l : List LogEntry). AreAnsweredOn lazy app before after l) (sym parts) (joined_on lazy app before between after mine others here later)

door_told : {L : Type 0} (serving : ServeArgs) (top : TopRun L) (app : Application) (sessions : List Session) (start : State) (visits : List (LinkVisit L))
    (log : List LogEntry) (audit lines : List ℕ) → audit ≡ lines → IsDoorServed serving top app sessions start visits log audit
    → IsDoorServed serving top app sessions start visits log lines
door_told serving top app sessions start visits log audit lines same served =
    subst (λ (l : List ℕ). IsDoorServed serving top app sessions start visits log l) same served

faithfully : {L : Type 0} (serving : ServeArgs) (top : TopRun L) → HasServed serving top → IsToldToEnd top → HasServedFaithfully serving top
faithfully serving top run ended =
    let s = run.door_served in
    let on = visits_on top.line serving.lazy run.app run.sessions 1 0 (run_seen_of s.opened (counts_of top).before) (run_seen_with top.seen.keeper.after (counts_of top).after s.left)
    run.visits run.log run.audit s.visited ended.keeper in
    let told = door_told serving top run.app run.sessions run.start run.visits run.log run.audit (audit_lines run.log) s.audit_is s in
    record {
      app = run.app;
      sessions = run.sessions;
      opened = s.opened;
      visits = run.visits;
      log = run.log;
      held = run.held;
      attached = s.attached;
      faithful = faithful_log serving.lazy run.app s.opened.state top.seen.keeper.after.state run.log on.worlds on.answered;
      told = subst (λ (x : State). IsDoorServed serving top run.app run.sessions x run.visits run.log (audit_lines run.log)) s.starts told;
    }

pub served_faithfully : {L : Type 0} (words : List (List ℕ)) (serving : ServeArgs) (top : TopRun L) → IsTopRun words top
    → command_of words ≡ Some (commands.Serve serving) → IsToldToEnd top → HasServedFaithfully serving top
served_faithfully words serving top ran is_serve ended = faithfully serving top (has_served words serving top ran is_serve ended) ended
