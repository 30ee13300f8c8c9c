-- What follows from the promise: nothing that a policy forbids is shown, what is hidden changes no
-- byte, and a write changes only the worlds in which its path condition is true.
use Rattle.std.specs.Prelude.{◌≡◌, ℕ, Bool, true, false, Some, List, [], ◌∷◌, ◌++◌, length}
use Rattle.jac_world.specs.World.{shown_by, holds}
use Rattle.jac_lang.specs.Syntax.{Application}
use Rattle.jac_rows.specs.Project.{project_at}
use Rattle.jac_rows.specs.declared.state.State.{State}
use Rattle.jac_plain.specs.Policies.{is_allowed}
use Rattle.jac_serve_events.specs.AnswerSpec.{LogEntry}
use Rattle.jac_serve_events.specs.Log.{viewer_of_subject}
use Rattle.jac_cli.specs.declared.words.Replay.{Replay}
use Rattle.jac_noninterference.specs.TwoRuns.{LookSame, NoneFailed, IsSameReply}
use Rattle.jac_run_laws.specs.Replayed.{TopRun}
use Rattle.jac_headline.specs.Headline.{Given, HasReplayedFaithfully, HasEntry, world_behind}

-- Each label of each page is allowed for the viewer in the world that the page's labels show after
-- the request: the label's record exists there, and the policy of its group is true.
abbrev pub ShowsNothingForbidden : Application → State → List LogEntry → Type 0
ShowsNothingForbidden app start log =
    (before : List LogEntry) (entry : LogEntry) (labels : List ℕ) (k : ℕ)
    → HasEntry log before entry → entry.answer.shown ≡ Some labels → shown_by labels k ≡ true
    → is_allowed app (world_behind app start (before ++ entry ∷ []) (shown_by labels))
    (viewer_of_subject entry.subject) k ≡ true

-- Two replays of the same events over two stores. Take entries at the same place whose pages have
-- the same labels. If these labels show the same of both starts, and no entry so far failed because
-- it was out of memory or because of a fault of the keeper, the replies are the same, byte by byte.
pub record HideAlike {L M : Type 0} (replay again : Replay) (given : Given) (one : TopRun L)
    (two : TopRun M) : Type 0 where
  pub first : HasReplayedFaithfully replay given one
  pub second : HasReplayedFaithfully again given two
  pub same : (before before' : List LogEntry) (entry other : LogEntry) (labels : List ℕ)
      → HasEntry first.log before entry → HasEntry second.log before' other
      → length before ≡ length before'
      → NoneFailed (before ++ entry ∷ []) → NoneFailed (before' ++ other ∷ [])
      → entry.answer.shown ≡ Some labels → other.answer.shown ≡ Some labels
      → LookSame (shown_by labels) first.opened.state second.opened.state
      → IsSameReply entry other

-- Every world in which the path condition is false keeps its tables.
abbrev pub LeavesOthers : List (ℕ × Bool) → State → State → Type 0
LeavesOthers pc old new = (w : ℕ → Bool) → holds w pc ≡ false
    → (project_at w new).tables ≡ (project_at w old).tables
