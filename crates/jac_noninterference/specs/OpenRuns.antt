-- Two runs of an open application that give no page of a POST, and the labels under which their
-- pages are made.
use Rattle.std.specs.Prelude.{◌≡◌, ℕ, Bool, true, false, Some, List, [], ◌∷◌, ⊤}
use Rattle.jac_world.specs.World.{shown_by}
use Rattle.jac_lang.specs.Syntax.{Application}
use Rattle.jac_rows.specs.Project.{project_at}
use Rattle.jac_rows.specs.declared.state.State.{State}
use Rattle.jac_open_app_laws.specs.Open.{AreAlike, IsEven, nothing}
use Rattle.jac_serve_events.specs.AnswerSpec.{LogEntry}
use Rattle.jac_dispatch.specs.Log.{is_stored_for}
use Rattle.jac_noninterference.specs.TwoRuns.{OneRun, LookSame, IsSameAsked, IsSameReply}

-- No answer of the log is the page of a POST.
abbrev pub OnlyReads : Application → List LogEntry → Type 0
OnlyReads app [] = ⊤
OnlyReads app (entry ∷ log) =
    (is_stored_for app entry.subject entry.answer ≡ false) × OnlyReads app log

-- Both runs start from even states, which are alike under the assignment that shows nothing.
pub record StartAlike (app : Application) (one two : OneRun) : Type 0 where
  pub even : IsEven app one.start
  pub even_too : IsEven app two.start
  pub alike : AreAlike app (project_at nothing one.start) (project_at nothing two.start)

-- Both entries answer the same request. Both pages were made under the same labels, or neither
-- entry has a page. If these labels show the same of both starts, or if there are none, the replies
-- are equal, byte by byte.
pub record IsShownSame (start other : State) (one two : LogEntry) : Type 0 where
  pub asked : IsSameAsked one two
  pub labels : one.answer.shown ≡ two.answer.shown
  pub reply :
      ((labels : List ℕ) → one.answer.shown ≡ Some labels → LookSame (shown_by labels) start other)
      → IsSameReply one two

-- Entry by entry. A log ends before the other only if its run may stop early.
abbrev pub AreShownSame : Bool → Bool → State → State → List LogEntry → List LogEntry → Type 0
AreShownSame early late start other [] [] = ⊤
AreShownSame early late start other [] (two ∷ others) = early ≡ true
AreShownSame early late start other (one ∷ log) [] = late ≡ true
AreShownSame early late start other (one ∷ log) (two ∷ others) =
    IsShownSame start other one two × AreShownSame early late start other log others
