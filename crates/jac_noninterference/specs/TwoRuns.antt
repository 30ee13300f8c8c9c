-- Two runs side by side: their requests, the worlds of one assignment in both, and their replies.
use Rattle.std.specs.Prelude.{◌≡◌, ℕ, Bool, true, false, if◌then◌else◌, Option, Some, None, is_some, List, [], ◌∷◌, length, map, ⊤}
use Rattle.jac_world.specs.World.{shown_by}
use Rattle.jac_lang.specs.Syntax.{Application}
use Rattle.jac_rows.specs.Project.{project_at}
use Rattle.jac_rows.specs.declared.plain.PlainState.{PlainState}
use Rattle.jac_rows.specs.declared.state.State.{State}
use Rattle.jac_events.specs.declared.event.Event.{Event}
use Rattle.jac_hub.specs.Hearing.{Source, Entry as EntryOf}
use Rattle.jac_route.specs.declared.sessions.Session.{Session}
use Rattle.jac_serve_events.specs.AnswerSpec.{LogSubject, LogEntry, is_failure}
use Rattle.jac_serve_events.specs.Log.{entry_on}
use Rattle.jac_dispatch.specs.Log.{Serves, after_entry}
use Rattle.jac_replies.specs.declared.answer.Answer.{Answer}
use Rattle.jac_replies.specs.declared.reply.Spelling.{Spelling}

-- A run: whether a GET's page resolves only the labels that it consults, whether the run may stop
-- early, its first state, its log, and the state that it leaves.
pub record OneRun : Type 0 where
  pub lazy : Bool
  pub early : Bool
  pub start : State
  pub log : List LogEntry
  pub finish : State

-- The run answers these events.
abbrev pub IsRunServed : Application → List Session → List Event → OneRun → Type 0
IsRunServed app sessions events run =
    Serves run.lazy run.early app sessions run.start events run.log run.finish

-- The assignment shows the same of both states.
abbrev pub LookSame : (ℕ → Bool) → State → State → Type 0
LookSame w start other = project_at w start ≡ project_at w other

-- No entry of the log failed because it was out of memory or because of a fault of the keeper.
abbrev pub NoneFailed : List LogEntry → Type 0
NoneFailed [] = ⊤
NoneFailed (entry ∷ log) = (is_failure entry.answer ≡ false) × NoneFailed log

-- Neither entry failed.
abbrev pub NeitherFailed : LogEntry → LogEntry → Type 0
NeitherFailed one two = (is_failure one.answer ≡ false) × (is_failure two.answer ≡ false)

-- The entries answer the same request, from the same source and in the same event.
pub record IsSameAsked {I A : Type 0} (one two : EntryOf I A) : Type 0 where
  pub place : one.place ≡ two.place
  pub source : one.source ≡ two.source
  pub subject : one.subject ≡ two.subject

-- Entry by entry the requests are the same. A log ends before the other only if its run may stop
-- early.
abbrev pub HaveSameSubjects : Bool → Bool → List LogEntry → List LogEntry → Type 0
HaveSameSubjects early other [] [] = ⊤
HaveSameSubjects early other [] (two ∷ others) = early ≡ true
HaveSameSubjects early other (one ∷ log) [] = other ≡ true
HaveSameSubjects early other (one ∷ log) (two ∷ others) =
    IsSameAsked one two × HaveSameSubjects early other log others

-- In these two worlds the requests are the same, both answers have a page or neither has, and the
-- worlds after the entries are the same.
pub record IsSameStep (w : ℕ → Bool) (app : Application) (one two : LogEntry) (t u : PlainState)
    : Type 0 where
  pub asked : IsSameAsked one two
  pub page : is_some one.answer.shown ≡ is_some two.answer.shown
  pub left : after_entry w app one t ≡ after_entry w app two u

-- From these two worlds on, entry by entry, until one of two entries has failed. A log ends before
-- the other only if its run may stop early, or if the next entry of the other failed.
abbrev pub AgreeAfterEach : (ℕ → Bool) → Application → Bool → Bool → List LogEntry → List LogEntry
    → PlainState → PlainState → Type 0
AgreeAfterEach w app early other [] [] t u = ⊤
AgreeAfterEach w app early other [] (two ∷ others) t u =
    is_failure two.answer ≡ false → early ≡ true
AgreeAfterEach w app early other (one ∷ log) [] t u = is_failure one.answer ≡ false → other ≡ true
AgreeAfterEach w app early other (one ∷ log) (two ∷ others) t u =
    NeitherFailed one two
    → IsSameStep w app one two t u
    × AgreeAfterEach w app early other log others
    (after_entry w app one t) (after_entry w app two u)

-- Two runs at their ends.
pub record EndAlike (w : ℕ → Bool) (one two : OneRun) : Type 0 where
  -- The requests are the same.
  pub subjects : HaveSameSubjects one.early two.early one.log two.log
  -- If neither run may stop early, they have equally many entries.
  pub long : one.early ≡ false → two.early ≡ false → length one.log ≡ length two.log
  -- If they have equally many entries, the assignment shows the same of what they leave.
  pub ends : length one.log ≡ length two.log → LookSame w one.finish two.finish

-- What its receiver sees of an answer: all but the labels that were consulted for it, which only
-- the audit contains.
abbrev pub seen_answer : Answer → Answer
seen_answer answer = record answer { consulted = None }

-- The seen parts of the answers are equal, and so are the bytes that are written to an output or a
-- connection.
pub record IsSameReply (one two : LogEntry) : Type 0 where
  pub answer : seen_answer one.answer ≡ seen_answer two.answer
  pub put : (spelling : Spelling) → entry_on spelling one ≡ entry_on spelling two

-- The replies are the same if they have no page. They are also the same if their pages were made
-- under the same labels and these labels show the same of both starts.
pub record IsSameWhereShown (start other : State) (one two : LogEntry) : Type 0 where
  pub refusal : one.answer.shown ≡ None → two.answer.shown ≡ None → IsSameReply one two
  pub page :
      (labels : List ℕ) → LookSame (shown_by labels) start other
      → one.answer.shown ≡ Some labels → two.answer.shown ≡ Some labels → IsSameReply one two

-- Entry by entry, until one of two entries has failed.
abbrev pub AreSameWhereShown : State → State → List LogEntry → List LogEntry → Type 0
AreSameWhereShown start other [] others = ⊤
AreSameWhereShown start other (one ∷ log) [] = ⊤
AreSameWhereShown start other (one ∷ log) (two ∷ others) =
    NeitherFailed one two
    → IsSameWhereShown start other one two × AreSameWhereShown start other log others

abbrev pub seen_entry : LogEntry → LogEntry
seen_entry entry = record entry { answer = seen_answer entry.answer }

-- What an observer sees of a log: the entries whose source and subject pass a test, for example
-- those of one connection or of one viewer.
abbrev pub seen_by : (Source → LogSubject → Bool) → List LogEntry → List LogEntry
seen_by sees [] = []
seen_by sees (entry ∷ log) =
    if sees entry.source entry.subject then seen_entry entry ∷ seen_by sees log
    else seen_by sees log

-- The labels of each page, as in the audit.
abbrev pub labels_of : List LogEntry → List (Option (List ℕ))
labels_of log = map (λ entry. entry.answer.shown) log

-- Under the labels of each page, the states look the same.
abbrev pub LookSameFor : State → State → List LogEntry → Type 0
LookSameFor start other [] = ⊤
LookSameFor start other (entry ∷ log) =
    ((labels : List ℕ) → entry.answer.shown ≡ Some labels → LookSame (shown_by labels) start other)
    × LookSameFor start other log

-- Two whole runs in which nothing failed. The observer's pages have the same labels in both, and
-- under the labels of each page the starts look the same.
pub record AreSeenAlike (sees : Source → LogSubject → Bool) (one two : OneRun) : Type 0 where
  pub whole : one.early ≡ false
  pub whole_too : two.early ≡ false
  pub none_failed : NoneFailed one.log
  pub none_failed_too : NoneFailed two.log
  pub labels : labels_of (seen_by sees one.log) ≡ labels_of (seen_by sees two.log)
  pub starts : LookSameFor one.start two.start (seen_by sees one.log)
