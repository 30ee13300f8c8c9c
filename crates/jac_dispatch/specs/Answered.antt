-- How requests are answered from a store, one log entry at a time.
use Rattle.std.specs.Prelude.{◌≡◌, ℕ, ◌⊎◌, Bool, IsTrue, true, false, if◌then◌else◌, Option, Some, None, List, [], ◌∷◌, ◌++◌, ⊤}
use Rattle.jac_lang.specs.Syntax.{Application}
use Rattle.jac_rows.specs.Good.{IsGood}
use Rattle.jac_rows.specs.Project.{project_at}
use Rattle.jac_keep.specs.KeeperSeen.{KeeperSeen}
use Rattle.jac_plain.specs.Models.{shapes_of}
use Rattle.jac_engine.specs.Answers.{IsAnswerTo, HasForm, world_left, is_stored}
use Rattle.jac_engine.specs.Prepared.{IsInvalidationOf}
use Rattle.jac_engine.specs.Start.{IsStart}
use Rattle.jac_http.specs.Replies.{reply_bytes}
use Rattle.jac_hub.specs.declared.sent.Sent.{Sent}
use Rattle.jac_hub.specs.declared.sent.Sent.TheVariants.{Made}
use Rattle.jac_hub.specs.Channel.{fixed_500}
use Rattle.jac_hub.specs.Hearing.{Source, asked, connection, whole}
use Rattle.jac_replies.specs.declared.answer.Answer.{Answer}
use Rattle.jac_replies.specs.declared.answer.Ask.{Ask}
use Rattle.jac_replies.specs.declared.reply.Spelling.{Spelling}
use Rattle.jac_replies.specs.declared.reply.Spelling.TheVariants as spellings
use Rattle.jac_replies.specs.Spelled.{spelled_bytes, audit_rest}
use Rattle.jac_route.specs.declared.sessions.Session.{Session}
use Rattle.jac_policy_cache.specs.declared.viewer_cache.ViewerCache.{ViewerCache}
use Rattle.jac_policy_cache.specs.declared.invalidation.Invalidation.{Invalidation}
use Rattle.jac_resolve.specs.Rounds.{AreFewEvaluations}
use Rattle.jac_resolve.specs.ValidCache.{IsValidCache}
use Rattle.jac_rows.specs.declared.state.State.{State}
use Rattle.jac_keep.specs.declared.alteration.Change.{Change}
use Rattle.jac_viewer_caches.specs.CacheEntries.{AreInvalidated, IsOneOf, entry_of}
use Rattle.jac_viewer_caches.specs.declared.viewer_caches.ViewerEntry.{ViewerEntry}
use Rattle.jac_serve_events.specs.AnswerSpec.{LogSubject, LogEntry, AnswerSpec, is_failure}
use Rattle.jac_serve_events.specs.Dispatcher.{DispatcherSeen}
use Rattle.jac_serve_events.specs.RunSeen.{RunCounts, Grew, RunSeen, run_seen_with}
use Rattle.jac_serve_events.specs.Log.{reply_on, viewer_of_subject}
use Rattle.jac_serve_events.specs.Outside.{Span, span}
use Rattle.jac_dispatch.specs.declared.answer.RequestSource.{RequestSource}
use Rattle.jac_dispatch.specs.declared.answer.RequestSource.TheVariants as ways
use Rattle.jac_dispatch.specs.Asked.{ask_in, request_in}
use Rattle.jac_dispatch.specs.Log.{IsAnswer, IsFormed, AreFormed, AreAnswered, left_of, after_log, is_stored_for, may_split, is_unstored, is_unsplit, faults_in, is_fault_answer}
use Rattle.jac_plain.specs.Shown.{worlds_of}

abbrev pub source_of : RequestSource → Source
source_of ways.Line = asked
source_of (ways.Connection conn close spelling) = connection conn

abbrev pub close_of : RequestSource → Bool
close_of ways.Line = false
close_of (ways.Connection conn close spelling) = close

abbrev pub spelling_of : RequestSource → Spelling
spelling_of ways.Line = spellings.Quoted
spelling_of (ways.Connection conn close spelling) = spelling

-- No cache is kept for this viewer.
pub record HasNoCache (viewer : Option ℕ) (viewer_caches : List ViewerEntry) : Type 0 where
  pub none : (cache : ViewerCache) → IsOneOf (entry_of viewer cache) viewer_caches → ⊥

-- If all labels of a page are settled, the contents of the state are known, and no cache was kept
-- for the viewer, few policies were evaluated for the live labels of the state.
pub record AsksFewAtFirst (lazy tells : Bool) (app : Application) (s : State) (viewer : Option ℕ)
    (viewer_caches : List ViewerEntry) (before now : ℕ) : Type 0 where
  pub few : lazy ≡ false → IsTrue tells → HasNoCache viewer viewer_caches
      → AreFewEvaluations app s viewer before now

-- A cache is kept for this viewer.
abbrev pub HasCache : Option ℕ → List ViewerEntry → Type 0
HasCache viewer viewer_caches = (cache : ViewerCache) × IsOneOf (entry_of viewer cache)
    viewer_caches

-- Each cache is kept for this viewer, or for a viewer for whom one was kept before.
pub record AreKeptFor (viewer : Option ℕ) (before after : List ViewerEntry) : Type 0 where
  pub each : (s : ViewerEntry) → IsOneOf s after
      → (s.viewer ≡ viewer) ⊎ HasCache s.viewer before

-- A request was answered, and its answer stored. The texts are the line of its reply, and what
-- follows the number in its audit line.
pub record IsAnswerMade (lazy : Bool) (app : Application) (k : Span RunSeen) (via : RequestSource)
    (ask : Ask)
    (reply audit : List ℕ) : Type 0 where
  pub answer : Answer
  pub form : HasForm lazy app ask answer
  pub answered : IsTrue k.after.keeper.tells
      → IsAnswerTo lazy app (worlds_of k.before.keeper.state) ask answer
  pub worlds : IsTrue k.after.keeper.tells → (w : ℕ → Bool)
      → project_at w k.after.keeper.state
      ≡ world_left w app ask answer (project_at w k.before.keeper.state)
  pub goes_on : IsTrue k.after.keeper.tells → IsStart app k.after.keeper.state
  pub good : IsTrue k.after.keeper.tells → IsGood (shapes_of app) k.before.keeper.state
      → IsGood (shapes_of app) k.after.keeper.state
  pub unstored : IsTrue k.after.keeper.tells → is_stored app ask answer ≡ false
      → k.after.keeper.state ≡ k.before.keeper.state
  pub unsplit : is_stored app ask answer ≡ false → k.after.splits ≡ k.before.splits
  pub bounded : AsksFewAtFirst lazy k.after.keeper.tells app k.after.keeper.state ask.viewer
      k.before.viewer_caches k.before.evaluations k.after.evaluations
  pub kept : AreKeptFor ask.viewer k.before.viewer_caches k.after.viewer_caches
  pub reply_made : reply
      ≡ reply_on (spelling_of via) (source_of via) (whole ask (close_of via)) answer
  pub audit_made : audit ≡ audit_rest answer.status ask.viewer answer.shown answer.consulted

-- The subject has this answer, and what the answer leaves.
pub record IsEntryOf (lazy : Bool) (app : Application) (k : Span RunSeen) (subject : LogSubject)
    (answer : Answer) : Type 0 where
  pub formed : IsFormed lazy app subject answer
  pub told : IsTrue k.after.keeper.tells → IsTrue k.before.keeper.tells
  pub answered : IsTrue k.after.keeper.tells
      → IsAnswer lazy app (worlds_of k.before.keeper.state) subject answer
  pub worlds : IsTrue k.after.keeper.tells → (w : ℕ → Bool)
      → project_at w k.after.keeper.state
      ≡ left_of w app subject answer (project_at w k.before.keeper.state)
  pub goes_on : IsTrue k.after.keeper.tells → IsStart app k.after.keeper.state
  pub good : IsTrue k.after.keeper.tells → IsGood (shapes_of app) k.before.keeper.state
      → IsGood (shapes_of app) k.after.keeper.state
  -- If the answer isn't stored, the state doesn't change. If no facet may be split for it, neither
  -- does the count of splits.
  pub unstored : IsTrue k.after.keeper.tells → is_stored_for app subject answer ≡ false
      → k.after.keeper.state ≡ k.before.keeper.state
  pub unsplit : may_split app subject answer ≡ false → k.after.splits ≡ k.before.splits
  -- An answer that isn't a failure took few evaluations if no cache was kept for the viewer. Of the
  -- viewers who had no cache before, only this one may have one.
  pub bounded : is_failure answer ≡ false
      → AsksFewAtFirst lazy k.after.keeper.tells app k.after.keeper.state
      (viewer_of_subject subject) k.before.viewer_caches k.before.evaluations k.after.evaluations
  pub kept : AreKeptFor (viewer_of_subject subject) k.before.viewer_caches k.after.viewer_caches
  pub faults : Grew k.before.keeper.faults (if is_fault_answer answer then 1
      else 0) k.after.keeper.faults

-- Each entry was answered on what the entry before it left.
abbrev pub AreAnsweredInTurn : Bool → Application → RunSeen → List LogEntry → RunSeen → Type 0
AreAnsweredInTurn lazy app before [] after = after ≡ before
AreAnsweredInTurn lazy app before (entry ∷ log) after =
    (between : RunSeen) × IsEntryOf lazy app (span before between) entry.subject entry.answer
    × AreAnsweredInTurn lazy app between log after

-- No entry belongs to this viewer.
abbrev pub HasNoEntry : Option ℕ → List LogEntry → Type 0
HasNoEntry viewer [] = ⊤
HasNoEntry viewer (entry ∷ log) =
    ¬ (viewer_of_subject entry.subject ≡ viewer) × HasNoEntry viewer log

-- An entry was answered in this span, after the entries before it and before the later ones. If all
-- labels of a page are settled, and the contents of the state are known to the end, few policies
-- were evaluated in the span for the live labels of the state that it left.
pub record IsFewInTurn (lazy : Bool) (app : Application) (k own : Span RunSeen)
    (before : List LogEntry) (entry : LogEntry) (later : List LogEntry) : Type 0 where
  pub earlier : AreAnsweredInTurn lazy app k.before before own.before
  pub answered : IsEntryOf lazy app own entry.subject entry.answer
  pub behind : AreAnsweredInTurn lazy app own.after later k.after
  pub few : lazy ≡ false → IsTrue k.after.keeper.tells
      → AreFewEvaluations app own.after.keeper.state (viewer_of_subject entry.subject)
      own.before.evaluations own.after.evaluations

-- This holds for each entry that isn't a failure and whose viewer has no entry before it, if no
-- cache was kept for that viewer at the beginning.
pub record AreFewAtFirst (lazy : Bool) (app : Application) (k : Span RunSeen) (log : List LogEntry)
    : Type 0 where
  pub each : (before later : List LogEntry) (entry : LogEntry) → log ≡ before ++ entry ∷ later
      → HasNoCache (viewer_of_subject entry.subject) k.before.viewer_caches
      → HasNoEntry (viewer_of_subject entry.subject) before → is_failure entry.answer ≡ false
      → (own : Span RunSeen) × IsFewInTurn lazy app k own before entry later

-- Some subjects were answered one after another.
pub record AreEntries (lazy : Bool) (app : Application) (k : Span RunSeen) (log : List LogEntry)
    : Type 0 where
  pub formed : AreFormed lazy app log
  pub told : IsTrue k.after.keeper.tells → IsTrue k.before.keeper.tells
  pub answered : IsTrue k.after.keeper.tells
      → AreAnswered lazy app (worlds_of k.before.keeper.state) log
  pub worlds : IsTrue k.after.keeper.tells → (w : ℕ → Bool)
      → project_at w k.after.keeper.state ≡ after_log w app log (project_at w k.before.keeper.state)
  pub goes_on : IsTrue k.after.keeper.tells → IsStart app k.after.keeper.state
  pub good : IsTrue k.after.keeper.tells → IsGood (shapes_of app) k.before.keeper.state
      → IsGood (shapes_of app) k.after.keeper.state
  pub unstored : IsTrue k.after.keeper.tells → is_unstored app log ≡ true
      → k.after.keeper.state ≡ k.before.keeper.state
  pub unsplit : is_unsplit app log ≡ true → k.after.splits ≡ k.before.splits
  pub in_turn : AreAnsweredInTurn lazy app k.before log k.after
  pub few : AreFewAtFirst lazy app k log
  pub faults : Grew k.before.keeper.faults (faults_in log) k.after.keeper.faults

-- What is sent for a request that is refused with this status, unless the dispatcher is out of
-- memory.
abbrev pub IsRefusalSent : Spelling → ℕ → ℕ → Sent → Type 0
IsRefusalSent spelling c status sent =
    (sent ≡ Made (spelled_bytes spelling c (reply_bytes status None None [] false false true))
    (audit_rest status None None None) false)
    ⊎ (sent ≡ fixed_500)

-- If the contents of the keeper are known, each viewer's cache is valid on them.
pub record AreValidCaches (app : Application) (k : KeeperSeen)
    (viewer_caches : List ViewerEntry) : Type 0 where
  pub each : IsTrue k.tells → (s : ViewerEntry) → IsOneOf s viewer_caches
      → IsValidCache app (worlds_of k.state) s.viewer s.cache

abbrev pub AreInvalidatedIf : Option Invalidation → List ViewerEntry → List ViewerEntry → Type 0
AreInvalidatedIf None old new = new ≡ old
AreInvalidatedIf (Some invalidation) old new = AreInvalidated invalidation old new

-- How an application with these sessions answers. The flag says that a GET's page resolves only
-- what it consults.
abbrev pub answer_spec_of : Bool → Application → List Session → AnswerSpec
answer_spec_of lazy app sessions = record {
  wants = request_in app sessions;
  asks = ask_in app;
  ready = λ k. IsTrue k.keeper.tells → IsStart app k.keeper.state;
  settled = AreValidCaches app;
  entry = IsEntryOf lazy app;
  entries = AreEntries lazy app;
}

-- What a dispatcher belongs to: an application, its sessions, whether a GET's page resolves only
-- what it consults, and the references to its keeper and to the counts of split facets and of
-- evaluated policies.
pub record DispatcherOf : Type 0 where
  pub app : Application
  pub sessions : List Session
  pub lazy : Bool
  pub keeper : ℕ
  pub splits : ℕ
  pub evaluations : ℕ

abbrev pub answer_spec : DispatcherOf → AnswerSpec
answer_spec of = answer_spec_of of.lazy of.app of.sessions

-- What contracts see of such a dispatcher.
abbrev pub dispatcher_of : DispatcherOf → KeeperSeen → RunCounts → List ViewerEntry → DispatcherSeen
    DispatcherOf
dispatcher_of of keeper counts viewer_caches = record {
  of = of;
  run_seen = run_seen_with keeper counts viewer_caches;
}
