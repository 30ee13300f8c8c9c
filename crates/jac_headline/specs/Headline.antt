-- The promise of a replay in one statement: what is stored, and what is shown, is what an ordinary
-- interpreter makes of plain tables.
use Rattle.std.specs.Prelude.{◌≡◌, ◌⊎◌, ℕ, ◌+◌, Bool, false, IsTrue, Option, Some, None, List, [], ◌∷◌, ◌++◌}
use Rattle.jac_world.specs.World.{shown_by}
use Rattle.jac_io.specs.Seen.{SinkSeen}
use Rattle.jac_lang.specs.Syntax.{Application}
use Rattle.jac_rows.specs.Project.{project_at}
use Rattle.jac_rows.specs.declared.state.State.{State}
use Rattle.jac_keep.specs.KeeperSeen.{KeeperSeen}
use Rattle.jac_plain.specs.Policies.{AreAllowed, IsSettled}
use Rattle.jac_plain.specs.Requests.{Visit, Worlds, page}
use Rattle.jac_plain.specs.declared.page.Page.{Page}
use Rattle.jac_app_load.specs.Application.{IsApplication}
use Rattle.jac_events.specs.declared.event.Event.{Event}
use Rattle.jac_hub.specs.Hearing.{Hearing, whole, refused, broken}
use Rattle.jac_hub.specs.Heard.{Connections, no_connections, IsBroughtBy, after_both}
use Rattle.jac_route.specs.Found.{found}
use Rattle.jac_route.specs.declared.lookup.Found.{Found}
use Rattle.jac_route.specs.declared.lookup.Found.TheVariants as founds
use Rattle.jac_route.specs.declared.sessions.Session.{Session}
use Rattle.jac_replies.specs.declared.answer.Answer.{Answer}
use Rattle.jac_replies.specs.declared.answer.Ask.{Ask}
use Rattle.jac_engine.specs.Answers.{visit_of, asked_with, HasNoNumber}
use Rattle.jac_serve_events.specs.declared.serve.EventFault.{EventFault}
use Rattle.jac_serve_events.specs.AnswerSpec.{LogSubject, LogEntry}
use Rattle.jac_serve_events.specs.Log.{replies_text, closing_text, audit_lines}
use Rattle.jac_serve_events.specs.Outside.{Span, Took}
use Rattle.jac_serve_events.specs.Script.{Script, script_of}
use Rattle.jac_cli.specs.declared.words.Replay.{Replay}
use Rattle.jac_command_base.specs.Attached.{IsAttached}
use Rattle.jac_command_base.specs.ExitReason.{event_fault_line}
use Rattle.jac_command_base.specs.declared.status.Status.{Status}
use Rattle.jac_command_base.specs.declared.status.Status.TheVariants as statuses
use Rattle.jac_dispatch.specs.Log.{application_hearing, after_log}
use Rattle.jac_connections.specs.Door.{LinkVisit}
use Rattle.jac_cli.specs.declared.words.ServeArgs.{ServeArgs}
use Rattle.jac_run_laws.specs.Doors.{HoldServing, IsDoorServed}
use Rattle.jac_run_laws.specs.Replayed.{TopRun, HoldSessions}

-- ---- what a replay is given, and its end

-- The bytes of an application, the sessions, and the bytes of the events.
pub record Given : Type 0 where
  pub app : List ℕ
  pub sessions : List Session
  pub events : List ℕ

-- The files of a replay have these contents.
pub record HoldGiven (file : List ℕ → Option (List ℕ)) (replay : Replay) (given : Given) : Type 0
  where
    pub app_file : file replay.app ≡ Some given.app
    pub sessions_held : HoldSessions file replay.sessions given.sessions
    pub events_file : file replay.events ≡ Some given.events

-- The replay ended with status 0, or with status 3 because a line is refused, and the contents of
-- its files and its store are known at the end.
pub record IsReplayTold {L : Type 0} (top : TopRun L) : Type 0 where
  pub status : (top.status ≡ statuses.Done) ⊎ (top.status ≡ statuses.LineRefused)
  pub files : IsTrue top.seen.files.after.tells
  pub keeper : IsTrue top.seen.keeper.after.tells

-- ---- an answer

-- The world of an assignment after some entries: what the ordinary interpreter makes of the world
-- that the assignment shows at the start.
abbrev pub world_behind : Application → State → List LogEntry → Worlds
world_behind app start log w = after_log w app log (project_at w start)

-- The view that a request finds, with its parameters and its viewer.
abbrev pub visit_by : Found → Application → Ask → Option Visit
visit_by founds.NoRoute app ask = None
visit_by (founds.WrongMethod allow) app ask = None
visit_by (founds.View n pairs) app ask = Some (visit_of app (asked_with pairs ask) n)

abbrev pub visit_in : Application → LogSubject → Option Visit
visit_in app (whole ask closes) = visit_by (found app ask.method ask.path) app ask
visit_in app (refused status) = None
visit_in app broken = None

-- The parts of an answer that make a page.
abbrev pub page_seen : Answer → Page
page_seen answer = record { status = answer.status; location = answer.location; body = answer.body }

-- The entry's page under these labels is the page that the ordinary interpreter makes in the world
-- that the labels show before the request. In the world that they show after the request, each of
-- them is allowed for the viewer. They are settled there, unless only the labels that the page
-- consults were resolved.
pub record IsRightPage (lazy : Bool) (app : Application) (before behind : Worlds)
    (entry : LogEntry) (labels : List ℕ) : Type 0 where
  pub visit : Visit
  pub asks : visit_in app entry.subject ≡ Some visit
  pub made : page_seen entry.answer ≡ page (shown_by labels) app (before (shown_by labels)) visit
  pub allowed : AreAllowed app behind visit.viewer labels
  pub settled : lazy ≡ false → IsSettled app behind visit.viewer labels

-- No view has the path, the path's views have other methods, or the numbers of records are used up.
abbrev pub IsRefusedAsFound : Found → Worlds → ℕ → Type 0
IsRefusedAsFound founds.NoRoute worlds status = status ≡ 404
IsRefusedAsFound (founds.WrongMethod allow) worlds status = status ≡ 405
IsRefusedAsFound (founds.View n pairs) worlds status = (status ≡ 507) × HasNoNumber worlds

-- A status without a page has a cause: what the request finds, bytes that are no request, memory
-- that ran out, or a fault of the keeper.
abbrev pub IsRefusal : Application → Worlds → LogSubject → ℕ → Type 0
IsRefusal app worlds (whole ask closes) status =
    (status ≡ 500) ⊎ (status ≡ 503) ⊎ IsRefusedAsFound (found app ask.method ask.path) worlds status
IsRefusal app worlds (refused code) status = (status ≡ 500) ⊎ (status ≡ code)
IsRefusal app worlds broken status = status ≡ 500

-- The log has this entry after these entries.
pub record HasEntry (log before : List LogEntry) (entry : LogEntry) : Type 0 where
  pub later : List LogEntry
  pub parts : log ≡ before ++ entry ∷ later

-- A log from a start to a finish is faithful to the ordinary interpreter. Under every assignment
-- the finish shows what the interpreter makes of what the start shows. Each page and each refusal
-- is right in the worlds after the entries before it.
pub record IsFaithful (lazy : Bool) (app : Application) (start finish : State)
    (log : List LogEntry) : Type 0 where
  pub stored : (w : ℕ → Bool) → project_at w finish ≡ world_behind app start log w
  pub pages : (before : List LogEntry) (entry : LogEntry) (labels : List ℕ)
      → HasEntry log before entry → entry.answer.shown ≡ Some labels
      → IsRightPage lazy app (world_behind app start before)
      (world_behind app start (before ++ entry ∷ [])) entry labels
  pub refusals : (before : List LogEntry) (entry : LogEntry)
      → HasEntry log before entry → entry.answer.shown ≡ None
      → IsRefusal app (world_behind app start before) entry.subject entry.answer.status

-- ---- what is read and written

-- The events, the first of which is the n-th, bring the log, with an entry for each request. The
-- text has the lines of the replies and of the closed connections.
abbrev pub TellsLog : Hearing Ask Answer → Connections Ask → ℕ → List Event → List LogEntry → List ℕ
    → Type 0
TellsLog h known n [] log text = (log ≡ []) × (text ≡ [])
TellsLog h known n (event ∷ events) log text =
    (mine : List LogEntry) × (others : List LogEntry) × (rest : List ℕ) × (log ≡ mine ++ others)
    × (text ≡ (replies_text mine ++ closing_text event known (after_both h event mine known))
    ++ rest)
    × IsBroughtBy h n event known mine
    × TellsLog h (after_both h event mine known) (n + 1) events others rest

-- The line about a refused line of the events.
abbrev pub event_fault_text : Option EventFault → List ℕ
event_fault_text None = []
event_fault_text (Some event_fault) = event_fault_line event_fault

-- The output is the text of the log that the events of the script bring, and the line about a
-- refused line.
pub record PutsReplay (h : Hearing Ask Answer) (script : Script) (log : List LogEntry)
    (out : Span SinkSeen) : Type 0 where
  pub text : List ℕ
  pub told : TellsLog h no_connections 0 script.events log text
  pub took : Took out (text ++ event_fault_text script.refused)

abbrev pub status_by : Option EventFault → Status
status_by None = statuses.Done
status_by (Some event_fault) = statuses.LineRefused

-- ---- the promise

-- A replay was faithful. The bytes of its file are the text of an application, and a store was
-- attached for it. A faithful log leads from the first state of the store to its state at the end,
-- with an entry for each request that the events bring. The output has the lines of this log, and
-- the audit has the labels.
pub record HasReplayedFaithfully {L : Type 0} (replay : Replay) (given : Given) (top : TopRun L) :
    Type 0 where
  pub app : Application
  pub opened : KeeperSeen
  pub log : List LogEntry
  pub spelled : IsApplication given.app app
  pub attached : IsAttached replay.db app top.seen.keeper opened
  pub faithful : IsFaithful replay.lazy app opened.state top.seen.keeper.after.state log
  pub told : PutsReplay (application_hearing app given.sessions) (script_of given.events) log
      top.seen.out
  pub audit_took : Took top.seen.audit (audit_lines log)
  pub ended : top.status ≡ status_by (script_of given.events).refused

-- ---- the promise of a serve

-- A serve was faithful in the same way. The log has the requests of each connection, one connection
-- after another, and the replies went to the connections.
pub record HasServedFaithfully {L : Type 0} (serving : ServeArgs) (top : TopRun L) : Type 0 where
  pub app : Application
  pub sessions : List Session
  pub opened : KeeperSeen
  pub visits : List (LinkVisit L)
  pub log : List LogEntry
  pub held : HoldServing top.seen.files.before.file serving app sessions
  pub attached : IsAttached serving.db app top.seen.keeper opened
  pub faithful : IsFaithful serving.lazy app opened.state top.seen.keeper.after.state log
  pub told : IsDoorServed serving top app sessions opened.state visits log (audit_lines log)
