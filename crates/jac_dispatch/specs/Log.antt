-- The log of a run: an entry for each request that was answered.
use Rattle.std.specs.Prelude.{◌≡◌, ℕ, ◌+◌, ◌==◌, ◌&&◌, ◌||◌, ◌⊎◌, Bool, true, false, not, is_none, if◌then◌else◌, None, List, [], ◌∷◌, ⊤}
use Rattle.jac_lang.specs.Syntax.{Application}
use Rattle.jac_rows.specs.Good.{IsGood}
use Rattle.jac_rows.specs.Project.{project_at}
use Rattle.jac_rows.specs.declared.plain.PlainState.{PlainState}
use Rattle.jac_rows.specs.declared.state.State.{State}
use Rattle.jac_plain.specs.Models.{shapes_of}
use Rattle.jac_plain.specs.Requests.{Worlds}
use Rattle.jac_engine.specs.Answers.{IsAnswerTo, HasForm, world_left, is_stored, stores}
use Rattle.jac_replies.specs.Refused.{refusal}
use Rattle.jac_engine.specs.Start.{IsStart}
use Rattle.jac_replies.specs.declared.answer.Answer.{Answer}
use Rattle.jac_replies.specs.declared.answer.Ask.{Ask}
use Rattle.jac_events.specs.declared.event.Event.{Event}
use Rattle.jac_http.specs.Replies.{reply_body}
use Rattle.jac_hub.specs.Hearing.{whole, refused, broken, Hearing}
use Rattle.jac_route.specs.declared.sessions.Session.{Session}
use Rattle.jac_serve_events.specs.AnswerSpec.{LogSubject, LogEntry, is_failure, IsHeardBy, hearing_by}
use Rattle.jac_dispatch.specs.Asked.{ask_in, request_in}
use Rattle.jac_plain.specs.Shown.{worlds_of}

-- How the requests of an application are understood.
abbrev pub application_hearing : Application → List Session → Hearing Ask Answer
application_hearing app sessions = hearing_by (request_in app sessions) (ask_in app)

-- The answer to a refused request.
abbrev pub refused_with : ℕ → Answer
refused_with status =
    record {
      status = status;
      location = None;
      allow = None;
      body = reply_body status [] false;
      shown = None;
      consulted = None;
    }

-- The answer that is given if the dispatcher was out of memory or the keeper failed.
abbrev pub HasFailed : Answer → Type 0
HasFailed answer = (answer ≡ refusal 500 None) ⊎ (answer ≡ refusal 503 None)

-- The subject is answered in these worlds, or the dispatcher was out of memory or the keeper
-- failed. The keeper is only used for requests. The flag says that a GET's page resolves only what
-- it consults.
abbrev pub IsAnswer : Bool → Application → Worlds → LogSubject → Answer → Type 0
IsAnswer lazy app worlds (whole ask closes) answer =
    HasFailed answer ⊎ IsAnswerTo lazy app worlds ask answer
IsAnswer lazy app worlds (refused status) answer =
    (answer ≡ refusal 500 None) ⊎ (answer ≡ refused_with status)
IsAnswer lazy app worlds broken answer = answer ≡ refusal 500 None

-- What is known without any worlds: each refusal has its cause, and each page was made by some run.
abbrev pub IsFormed : Bool → Application → LogSubject → Answer → Type 0
IsFormed lazy app (whole ask closes) answer = HasFailed answer ⊎ HasForm lazy app ask answer
IsFormed lazy app (refused status) answer =
    (answer ≡ refusal 500 None) ⊎ (answer ≡ refused_with status)
IsFormed lazy app broken answer = answer ≡ refusal 500 None

-- A change comes with the answer to the subject.
abbrev pub is_stored_for : Application → LogSubject → Answer → Bool
is_stored_for app (whole ask closes) answer = is_stored app ask answer
is_stored_for app (refused status) answer = false
is_stored_for app broken answer = false

-- Facets may be split for the answer to the subject: it is stored, or it is a failure and the
-- request finds a view that stores.
abbrev pub may_split : Application → LogSubject → Answer → Bool
may_split app (whole ask closes) answer =
    is_stored app ask answer || (is_failure answer && stores app ask)
may_split app (refused status) answer = false
may_split app broken answer = false

-- None of the log's answers came with a change.
abbrev pub is_unstored : Application → List LogEntry → Bool
is_unstored app [] = true
is_unstored app (entry ∷ log) =
    not (is_stored_for app entry.subject entry.answer) && is_unstored app log

-- No facet may be split for any of the answers.
abbrev pub is_unsplit : Application → List LogEntry → Bool
is_unsplit app [] = true
is_unsplit app (entry ∷ log) = not (may_split app entry.subject entry.answer) && is_unsplit app log

abbrev pub left_of : (ℕ → Bool) → Application → LogSubject → Answer → PlainState → PlainState
left_of w app (whole ask closes) answer t = world_left w app ask answer t
left_of w app (refused status) answer t = t
left_of w app broken answer t = t

-- The world of an assignment after an entry.
abbrev pub after_entry : (ℕ → Bool) → Application → LogEntry → PlainState → PlainState
after_entry w app entry t = left_of w app entry.subject entry.answer t

-- The world of an assignment after a log.
abbrev pub after_log : (ℕ → Bool) → Application → List LogEntry → PlainState → PlainState
after_log w app [] t = t
after_log w app (entry ∷ log) t = after_log w app log (after_entry w app entry t)

-- Each entry is answered in the worlds that the entries before it leave.
abbrev pub AreAnswered : Bool → Application → Worlds → List LogEntry → Type 0
AreAnswered lazy app worlds [] = ⊤
AreAnswered lazy app worlds (entry ∷ log) =
    IsAnswer lazy app worlds entry.subject entry.answer
    × AreAnswered lazy app (λ w. after_entry w app entry (worlds w)) log

-- The log answers what the events bring, each in the worlds before it. Under every assignment, the
-- state at the end shows the world that the log leaves of what the start shows. A good start stays
-- good.
pub record Serves (lazy early : Bool) (app : Application) (sessions : List Session) (start : State)
    (events : List Event) (log : List LogEntry) (finish : State) : Type 0 where
  pub subjects : IsHeardBy early (application_hearing app sessions) events log
  pub answered : AreAnswered lazy app (worlds_of start) log
  pub worlds : (w : ℕ → Bool) → project_at w finish ≡ after_log w app log (project_at w start)
  pub goes_on : IsStart app finish
  pub good : IsGood (shapes_of app) start → IsGood (shapes_of app) finish

abbrev pub AreFormed : Bool → Application → List LogEntry → Type 0
AreFormed lazy app [] = ⊤
AreFormed lazy app (entry ∷ log) =
    IsFormed lazy app entry.subject entry.answer × AreFormed lazy app log

-- The answer to a fault of the keeper: 503 without a page.
abbrev pub is_fault_answer : Answer → Bool
is_fault_answer answer = is_none answer.shown && answer.status == 503

-- The number of entries with such an answer.
abbrev pub faults_in : List LogEntry → ℕ
faults_in [] = 0
faults_in (entry ∷ log) = (if is_fault_answer entry.answer then 1 else 0) + faults_in log
