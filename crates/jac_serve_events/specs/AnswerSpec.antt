-- How an application answers, as the serving code sees it.
use Rattle.std.specs.Prelude.{◌≡◌, ℕ, ◌==◌, ◌||◌, Bool, true, false, Option, None, List, [], ◌∷◌, ◌++◌}
use Rattle.jac_events.specs.declared.event.Event.{Event}
use Rattle.jac_http.specs.Requests.{IsTaken}
use Rattle.jac_http.specs.declared.taken.Request.{Request}
use Rattle.jac_hub.specs.Hearing.{Subject as SubjectOf, broken, Entry as EntryOf, Hearing}
use Rattle.jac_hub.specs.Heard.{IsHeard, IsHeardInPart}
use Rattle.jac_keep.specs.KeeperSeen.{KeeperSeen}
use Rattle.jac_replies.specs.Refused.{refusal}
use Rattle.jac_replies.specs.declared.answer.Answer.{Answer}
use Rattle.jac_replies.specs.declared.answer.Ask.{Ask}
use Rattle.jac_serve_events.specs.RunSeen.{RunSeen}
use Rattle.jac_serve_events.specs.Outside.{Span, span}
use Rattle.jac_viewer_caches.specs.declared.viewer_caches.ViewerEntry.{ViewerEntry}

-- What was answered: a request, with whether it closes its connection; a refusal; or that memory
-- ran out.
abbrev pub LogSubject : Type 0
LogSubject = SubjectOf Ask

-- A subject of an event, and its answer.
abbrev pub LogEntry : Type 0
LogEntry = EntryOf Ask Answer

-- The answer says that memory ran out or that the keeper had a fault. Its connection is closed.
abbrev pub is_failure : Answer → Bool
is_failure answer = answer.status == 500 || answer.status == 503

-- How requests are understood: those of connections and those of `ask` lines.
abbrev pub hearing_by : (Request → Ask) → (Option ℕ → List ℕ → List ℕ → List ℕ → List ℕ → Ask)
    → Hearing Ask Answer
hearing_by wants asks = record {
  reads = IsTaken;
  wants = wants;
  asks = asks;
  ends = is_failure;
}

-- How an application answers.
pub record AnswerSpec : Type 1 where
  -- How the request of a connection is understood.
  pub wants : Request → Ask
  -- How the request of an `ask` line is understood: its viewer, method, path, query and body.
  pub asks : Option ℕ → List ℕ → List ℕ → List ℕ → List ℕ → Ask
  -- Requests may be answered in this state.
  pub ready : RunSeen → Type 0
  -- What was settled for viewers still holds for the keeper.
  pub settled : KeeperSeen → List ViewerEntry → Type 0
  -- The subject has this answer, with the state before and after.
  pub entry : Span RunSeen → LogSubject → Answer → Type 0
  -- Subjects were answered one after another, with the state before and after.
  pub entries : Span RunSeen → List LogEntry → Type 0

abbrev pub hearing : AnswerSpec → Hearing Ask Answer
hearing x = hearing_by x.wants x.asks

-- The log has the subjects that the events bring, in order. If it may stop early, it has the first
-- of them.
abbrev pub IsHeardBy : Bool → Hearing Ask Answer → List Event → List LogEntry → Type 0
IsHeardBy false h events log = IsHeard h events log
IsHeardBy true h events log = IsHeardInPart h events log

-- The conditions on which serving an application depends. The request of an `ask` line has its
-- method. Entries are answered one after another, each as it is alone, and requests may be answered
-- after each of them. If memory ran out for what was heard, it is answered without the keeper.
pub record IsAnswerSpec (x : AnswerSpec) : Type 0 where
  pub same_method : (viewer : Option ℕ) (method path query body : List ℕ)
      → (x.asks viewer method path query body).method ≡ method
  pub none : (k : RunSeen) → x.ready k → x.entries (span k k) []
  pub one : (a b : RunSeen) (entry : LogEntry) → x.entry (span a b) entry.subject entry.answer
      → x.entries (span a b) (entry ∷ [])
  pub joined : (a b c : RunSeen) (xs ys : List LogEntry) → x.entries (span a b) xs
      → x.entries (span b c) ys → x.entries (span a c) (xs ++ ys)
  pub goes_on : (a b : RunSeen) (subject : LogSubject) (answer : Answer)
      → x.entry (span a b) subject answer → x.ready b
  pub wanting : (k : RunSeen) → x.ready k → x.entry (span k k) broken (refusal 500 None)
