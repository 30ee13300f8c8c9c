-- Two runs of the top call that serve with the same words and files, over links with the same
-- input.
use Rattle.std.specs.Prelude.{◌≡◌, ⊤, ℕ, IsTrue, IsErr, Option, Some, None, List, [], ◌∷◌, ◌++◌, map}
use Rattle.jac_io.specs.Faults.{Rose}
use Rattle.jac_io.specs.Linked.{LinkSeen}
use Rattle.jac_world.specs.World.{shown_by}
use Rattle.jac_lang.specs.Syntax.{Application}
use Rattle.jac_rows.specs.declared.state.State.{State}
use Rattle.jac_keep.specs.KeeperSeen.{KeeperSeen}
use Rattle.jac_app_load.specs.Application.{IsApplication}
use Rattle.jac_route.specs.declared.sessions.Session.{Session}
use Rattle.jac_connections.specs.Door.{LinkVisit, AreVisited}
use Rattle.jac_serve_events.specs.AnswerSpec.{LogEntry}
use Rattle.jac_serve_events.specs.RunSeen.{run_seen_of, run_seen_with}
use Rattle.jac_serve_events.specs.Log.{audit_lines}
use Rattle.jac_serve_events.specs.Outside.{Took}
use Rattle.jac_cli.specs.declared.words.ServeArgs.{ServeArgs}
use Rattle.jac_command_base.specs.Attached.{IsAttached}
use Rattle.jac_dispatch.specs.Answered.{answer_spec_of}
use Rattle.jac_viewer_caches.specs.declared.viewer_caches.ViewerEntry.{ViewerEntry}
use Rattle.jac_noninterference.specs.TwoRuns.{LookSame, seen_answer}
use Rattle.jac_run_laws.specs.Replayed.{TopRun, HoldSessions, counts_of}

-- The files of a serve contain this application and these sessions.
pub record HoldServing (file : List ℕ → Option (List ℕ)) (serving : ServeArgs) (app : Application)
    (sessions : List Session) : Type 0 where
  pub app_bytes : List ℕ
  pub app_file : file serving.app ≡ Some app_bytes
  pub spelled : IsApplication app_bytes app
  pub sessions_held : HoldSessions file serving.sessions sessions

-- The connections were served one after another, from the state of the store after it was attached.
-- If the words say so, a GET's page resolves only the labels that it consults. The log has the
-- entries of all connections, and its audit lines were written. `left` has the entries of the
-- viewer caches at the end.
pub record IsDoorServed {L : Type 0} (serving : ServeArgs) (top : TopRun L) (app : Application)
    (sessions : List Session) (start : State) (visits : List (LinkVisit L)) (log : List LogEntry)
    (audit : List ℕ) : Type 0 where
  pub opened : KeeperSeen
  pub left : List ViewerEntry
  pub attached : IsAttached serving.db app top.seen.keeper opened
  pub starts : start ≡ opened.state
  pub came :
      IsTrue top.door.after.tells
      → top.door.before.coming ≡ map (λ visit. visit.came) visits ++ top.door.after.coming
  pub returned :
      IsTrue top.door.after.tells
      → top.door.after.returned ≡ top.door.before.returned ++ map (λ visit. visit.gone) visits
  pub visited :
      AreVisited top.line (answer_spec_of serving.lazy app sessions) 1 0
      (run_seen_of opened (counts_of top).before) visits log audit
      (run_seen_with top.seen.keeper.after (counts_of top).after left)
  pub audit_is : audit ≡ audit_lines log
  pub audit_took : Took top.seen.audit audit

-- What a serve read, and how it answered its connections.
pub record HasServed {L : Type 0} (serving : ServeArgs) (top : TopRun L) : Type 0 where
  pub app : Application
  pub sessions : List Session
  pub start : State
  pub visits : List (LinkVisit L)
  pub log : List LogEntry
  pub audit : List ℕ
  pub held : HoldServing top.seen.files.before.file serving app sessions
  pub door_served : IsDoorServed serving top app sessions start visits log audit

-- The contents of the connection are known at the end. It brought some input, all of which was
-- taken. No fault happened on it, and the call that served it succeeded.
pub record IsTakenWhole {L : Type 0} (line : L → LinkSeen) (visit : LinkVisit L) : Type 0 where
  pub told : IsTrue (line visit.gone).tells
  pub some : (line visit.came).left ≡ [] → ⊥
  pub all : (line visit.gone).left ≡ []
  pub no_fault : Rose (line visit.came).faults (line visit.gone).faults → ⊥
  pub answered : IsErr visit.result → ⊥

-- Connection by connection the input is the same, and all of it was taken in both serves.
abbrev pub AreTakenAlike : {L M : Type 0} → (L → LinkSeen) → (M → LinkSeen) → List (LinkVisit L)
    → List (LinkVisit M) → Type 0
AreTakenAlike line other [] [] = ⊤
AreTakenAlike line other [] (two ∷ more) = ⊥
AreTakenAlike line other (one ∷ visits) [] = ⊥
AreTakenAlike line other (one ∷ visits) (two ∷ more) =
    IsTakenWhole line one × IsTakenWhole other two
    × ((line one.came).left ≡ (other two.came).left)
    × AreTakenAlike line other visits more

-- The connection received these bytes while it was served.
abbrev pub HoldsMore : {L : Type 0} → (L → LinkSeen) → LinkVisit L → List ℕ → Type 0
HoldsMore line visit bytes = (line visit.gone).held ≡ (line visit.came).held ++ bytes

-- Connection by connection, both serves sent the same bytes.
abbrev pub HoldSameMore : {L M : Type 0} → (L → LinkSeen) → (M → LinkSeen) → List (LinkVisit L)
    → List (LinkVisit M) → Type 0
HoldSameMore line other [] [] = ⊤
HoldSameMore line other [] (two ∷ more) = ⊥
HoldSameMore line other (one ∷ visits) [] = ⊥
HoldSameMore line other (one ∷ visits) (two ∷ more) =
    ((bytes : List ℕ) × HoldsMore line one bytes × HoldsMore other two bytes)
    × HoldSameMore line other visits more

-- The requests are the same. The seen parts of the replies are the same if they have no page. They
-- are also the same if their pages were made under the same labels and these labels show the same
-- of both starts.
pub record IsLikeWhereShown (start other : State) (one two : LogEntry) : Type 0 where
  pub source : one.source ≡ two.source
  pub subject : one.subject ≡ two.subject
  pub refusal :
      one.answer.shown ≡ None → two.answer.shown ≡ None
      → seen_answer one.answer ≡ seen_answer two.answer
  pub page :
      (labels : List ℕ) → LookSame (shown_by labels) start other
      → one.answer.shown ≡ Some labels → two.answer.shown ≡ Some labels
      → seen_answer one.answer ≡ seen_answer two.answer

-- Entry by entry. The logs have the same length.
abbrev pub AreLikeWhereShown : State → State → List LogEntry → List LogEntry → Type 0
AreLikeWhereShown start other [] [] = ⊤
AreLikeWhereShown start other [] (two ∷ others) = ⊥
AreLikeWhereShown start other (one ∷ log) [] = ⊥
AreLikeWhereShown start other (one ∷ log) (two ∷ others) =
    IsLikeWhereShown start other one two × AreLikeWhereShown start other log others
