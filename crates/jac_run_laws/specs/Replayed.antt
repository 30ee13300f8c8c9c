-- Two runs of the top call that replay with the same words and files: what each of them read, the
-- log of what it answered, and what it wrote.
use Rattle.std.specs.Prelude.{◌≡◌, ◌⊎◌, ⊤, ℕ, Bool, false, ◌<◌, ◌^◌, IsTrue, Ok, Option, Some, None, List, [], ◌∷◌, ◌++◌, codes, decimal}
use Rattle.std.specs.List.{AllByRecursion}
use Rattle.jac_io.specs.Linked.{LinkSeen, DoorSeen}
use Rattle.jac_lang.specs.Syntax.{Application}
use Rattle.jac_keep.specs.KeeperSeen.{KeeperSeen}
use Rattle.jac_app_load.specs.Application.{IsApplication}
use Rattle.jac_events.specs.declared.event.Event.{Event}
use Rattle.jac_hub.specs.Heard.{Connections, no_connections}
use Rattle.jac_route.specs.declared.sessions.Session.{Session}
use Rattle.jac_route.specs.Sessions.{sessions_in}
use Rattle.jac_replies.specs.declared.answer.Ask.{Ask}
use Rattle.jac_replies.specs.Spelled.{audit_text}
use Rattle.jac_serve_events.specs.AnswerSpec.{LogEntry}
use Rattle.jac_serve_events.specs.Log.{Brings, audit_lines}
use Rattle.jac_serve_events.specs.Outside.{Span, span, Took}
use Rattle.jac_serve_events.specs.RunSeen.{RunCounts, run_counts, run_seen_of, run_seen_with}
use Rattle.jac_serve_events.specs.Script.{script_of}
use Rattle.jac_cli.specs.declared.words.Replay.{Replay}
use Rattle.jac_command_base.specs.declared.status.Status.{Status}
use Rattle.jac_command_base.specs.declared.status.Status.TheVariants as statuses
use Rattle.jac_dispatch.specs.Answered.{AreFewAtFirst, answer_spec_of}
use Rattle.jac_command_base.specs.Files.{Sight}
use Rattle.jac_command_base.specs.Attached.{IsAttached}
use Rattle.jac_viewer_caches.specs.declared.viewer_caches.ViewerEntry.{ViewerEntry}
use Rattle.jac_app.specs.Run.{IsRun}
use Rattle.jac_noninterference.specs.TwoRuns.{OneRun, IsRunServed}

-- From an opened store to this end, the first answer to each viewer took few evaluations. `counts`
-- are the counts before and after the call, and `left` has the entries of the viewer caches at the
-- end.
pub record AreFewFrom (lazy : Bool) (app : Application) (finish : KeeperSeen)
    (counts : Span RunCounts) (opened : KeeperSeen) (log : List LogEntry) : Type 0 where
  pub left : List ViewerEntry
  pub few :
      AreFewAtFirst lazy app
      (span (run_seen_of opened counts.before) (run_seen_with finish counts.after left)) log

-- A call of the program's top function: how it sees a connection, what it sees of the outside, its
-- door, how many facets were split, how many policies were evaluated, and its status.
pub record TopRun (L : Type 0) : Type 0 where
  pub line : L → LinkSeen
  pub seen : Sight
  pub door : Span (DoorSeen L)
  pub splits : Span ℕ
  pub evaluations : Span ℕ
  pub status : Status

-- The counts before and after the call.
abbrev pub counts_of : {L : Type 0} → TopRun L → Span RunCounts
counts_of top =
    span (run_counts top.splits.before top.evaluations.before)
    (run_counts top.splits.after top.evaluations.after)

-- The call ran with these words.
abbrev pub IsTopRun : {L : Type 0} → List (List ℕ) → TopRun L → Type 0
IsTopRun words top = IsRun top.line top.seen top.door (counts_of top) words top.status

-- The call ended with status 0, and the contents of its files and its store are known at the end.
pub record IsToldToEnd {L : Type 0} (top : TopRun L) : Type 0 where
  pub done : top.status ≡ statuses.Done
  pub files : IsTrue top.seen.files.after.tells
  pub keeper : IsTrue top.seen.keeper.after.tells

-- The sessions in the file of this name. If there is no name, there are no sessions.
abbrev pub HoldSessions : (List ℕ → Option (List ℕ)) → Option (List ℕ) → List Session → Type 0
HoldSessions file None sessions = sessions ≡ []
HoldSessions file (Some name) sessions =
    (bytes : List ℕ) × (file name ≡ Some bytes) × (sessions_in bytes ≡ Ok sessions)

-- The files of a replay contain this application, these sessions and these events, and no line of
-- the events is refused.
pub record HoldReplay (file : List ℕ → Option (List ℕ)) (replay : Replay) (app : Application)
    (sessions : List Session) (events : List Event) : Type 0 where
  pub app_bytes : List ℕ
  pub event_bytes : List ℕ
  pub app_file : file replay.app ≡ Some app_bytes
  pub spelled : IsApplication app_bytes app
  pub sessions_held : HoldSessions file replay.sessions sessions
  pub events_file : file replay.events ≡ Some event_bytes
  pub events_are : (script_of event_bytes).events ≡ events
  pub no_event_fault : (script_of event_bytes).refused ≡ None

-- The events were answered from the state of the store after it was attached. If the words say so,
-- a GET's page resolves only the labels that it consults. The output is the text of the log, and
-- the audit has its lines.
pub record IsReplayed {L : Type 0} (replay : Replay) (top : TopRun L) (app : Application)
    (sessions : List Session) (events : List Event) (run : OneRun) (out audit : List ℕ)
    : Type 0 where
  pub opened : KeeperSeen
  pub attached : IsAttached replay.db app top.seen.keeper opened
  pub told : IsTrue opened.tells
  pub start : run.start ≡ opened.state
  pub finish : run.finish ≡ top.seen.keeper.after.state
  pub lazy : run.lazy ≡ replay.lazy
  pub whole : run.early ≡ false
  pub served : IsRunServed app sessions events run
  pub brought :
      (later : Connections Ask)
      × Brings (answer_spec_of replay.lazy app sessions) no_connections 0 events run.log out later
  pub audit_is : audit ≡ audit_lines run.log
  pub out_took : Took top.seen.out out
  pub audit_took : Took top.seen.audit audit

-- What a replay read, and how it answered the events. The first answer to each viewer took few
-- evaluations.
pub record HasReplayed {L : Type 0} (replay : Replay) (top : TopRun L) : Type 0 where
  pub app : Application
  pub sessions : List Session
  pub events : List Event
  pub run : OneRun
  pub out : List ℕ
  pub audit : List ℕ
  pub held : HoldReplay top.seen.files.before.file replay app sessions events
  pub replayed : IsReplayed replay top app sessions events run out audit
  pub few : AreFewFrom replay.lazy app top.seen.keeper.after (counts_of top) replayed.opened run.log

-- Two replays read the same, and each answered the events.
pub record HaveReplayed {L M : Type 0} (replay : Replay) (one : TopRun L) (two : TopRun M)
    : Type 0 where
  pub app : Application
  pub sessions : List Session
  pub events : List Event
  pub first : OneRun
  pub second : OneRun
  pub first_out : List ℕ
  pub first_audit : List ℕ
  pub second_out : List ℕ
  pub second_audit : List ℕ
  pub held : HoldReplay one.seen.files.before.file replay app sessions events
  pub replayed : IsReplayed replay one app sessions events first first_out first_audit
  pub replayed_too : IsReplayed replay two app sessions events second second_out second_audit

-- A line begins after these bytes.
abbrev pub BeginsLine : List ℕ → Type 0
BeginsLine front = (front ≡ []) ⊎ ((line : List ℕ) × (front ≡ line ++ 10 ∷ []))

-- A line of the audit has this word after its number.
pub record HasStatusWord (audit word : List ℕ) : Type 0 where
  pub front : List ℕ
  pub number : ℕ
  pub rest : List ℕ
  pub begins : BeginsLine front
  pub is : audit ≡ front ++ (decimal number ++ (word ++ rest))

-- No line of the audit has the status 500 or 503.
pub record TellsNoFailure (audit : List ℕ) : Type 0 where
  pub no_500 : HasStatusWord audit (codes " 500 ") → ⊥
  pub no_503 : HasStatusWord audit (codes " 503 ") → ⊥

-- A line of the audit is about a page under these labels.
pub record TellsPage (audit labels : List ℕ) : Type 0 where
  pub front : List ℕ
  pub number : ℕ
  pub status : ℕ
  pub viewer : Option ℕ
  pub consulted : Option (List ℕ)
  pub rest : List ℕ
  pub begins : BeginsLine front
  pub is : audit ≡ front ++ (audit_text number status viewer (Some labels) consulted ++ rest)

abbrev pub AreSmall : Option (List ℕ) → Type 0
AreSmall None = ⊤
AreSmall (Some labels) = AllByRecursion (λ k. k < 2 ^ 128) labels

-- Each label of each page has at most 128 bits. All labels that the program writes do.
abbrev pub HaveSmallLabels : List LogEntry → Type 0
HaveSmallLabels [] = ⊤
HaveSmallLabels (entry ∷ log) = AreSmall entry.answer.shown × HaveSmallLabels log
