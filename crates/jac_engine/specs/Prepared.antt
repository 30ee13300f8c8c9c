-- What is prepared for a request before anything is stored: its answer, its change, and what that
-- change invalidates.
use Rattle.std.specs.Prelude.{◌≡◌, ℕ, Bool, false, IsTrue, List, Option, Some, None, is_some, ⊤}
use Rattle.jac_lang.specs.Syntax.{Application}
use Rattle.jac_rows.specs.Good.{IsGood}
use Rattle.jac_rows.specs.Project.{project_at}
use Rattle.jac_rows.specs.declared.row.Row.{Row}
use Rattle.jac_rows.specs.declared.state.State.{State}
use Rattle.jac_plain.specs.Models.{shapes_of}
use Rattle.jac_plain.specs.Requests.{Worlds}
use Rattle.jac_keep.specs.declared.alteration.Change.{Change}
use Rattle.jac_keep.specs.ChangedState.{changed_state}
use Rattle.jac_engine.specs.Answers.{IsAnswerTo, HasForm, world_left, is_stored}
use Rattle.jac_engine.specs.Start.{IsStart}
use Rattle.jac_replies.specs.declared.answer.Ask.{Ask}
use Rattle.jac_engine.specs.declared.answer.Prepared.{Prepared}
use Rattle.jac_engine.specs.declared.answer.PreparedWithCache.{PreparedWithCache}
use Rattle.jac_policy_cache.specs.Affected.{IsCovered}
use Rattle.jac_policy_cache.specs.declared.invalidation.Invalidation.{Invalidation}
use Rattle.jac_resolve.specs.Rounds.{AreFewEvaluations}
use Rattle.jac_resolve.specs.ValidCache.{IsValidCache}
use Rattle.jac_plain.specs.Shown.{worlds_of}

-- The state after a change, if there is one.
abbrev pub applied_if : Option Change → State → State
applied_if None s = s
applied_if (Some change) s = changed_state change s

-- What answers a request on a state. If the contents of the state are known, the answer is the
-- interpreter's in the worlds of the state. The change then leaves under every assignment what the
-- interpreter leaves, and the state stays good.
pub record IsPrepared
    (lazy tells : Bool) (app : Application) (s : State) (ask : Ask) (p : Prepared) : Type 0 where
  pub form : HasForm lazy app ask p.answer
  pub stored : is_some p.change ≡ is_stored app ask p.answer
  pub answered : IsTrue tells → IsAnswerTo lazy app (worlds_of s) ask p.answer
  pub worlds : IsTrue tells → (w : ℕ → Bool)
      → project_at w (applied_if p.change s) ≡ world_left w app ask p.answer (project_at w s)
  pub start : IsTrue tells → IsStart app (applied_if p.change s)
  pub good : IsTrue tells → IsGood (shapes_of app) s
      → IsGood (shapes_of app) (applied_if p.change s)

-- For each viewer, the invalidation covers the step from the worlds of the first state to those of
-- the second.
abbrev pub AreCovered : Application → State → State → Invalidation → Type 0
AreCovered app s later invalidation = (viewer : Option ℕ)
    → IsCovered app (worlds_of s) (worlds_of later) invalidation viewer

-- If there is a change, there is an invalidation for it.
abbrev pub IsInvalidationOf : Application → State → Option Change → Option Invalidation → Type 0
IsInvalidationOf app s None invalidation = ⊤
IsInvalidationOf app s (Some change) None = ⊥
IsInvalidationOf app s (Some change) (Some invalidation) = AreCovered app s (changed_state change s)
    invalidation

-- The viewer's cache is valid after the change, and the change has its invalidation.
pub record KeepsCache (tells : Bool) (app : Application) (s : State) (viewer : Option ℕ)
    (it : PreparedWithCache) : Type 0 where
  pub valid : IsTrue tells
      → IsValidCache app (worlds_of (applied_if it.prepared.change s)) viewer it.cache
  pub affected : IsTrue tells → IsInvalidationOf app s it.prepared.change it.invalidation

-- If all labels of a page are settled, the contents of the state are known, and no labels were
-- settled before for the viewer, few policies were evaluated for the live labels of the state that
-- is left.
pub record AsksFew (lazy tells : Bool) (app : Application) (s : State) (viewer : Option ℕ)
    (settled : Option (List ℕ)) (before now : ℕ) (p : Prepared) : Type 0 where
  pub few : lazy ≡ false → IsTrue tells → settled ≡ None
      → AreFewEvaluations app (applied_if p.change s) viewer before now

-- The same over the tables that are left, with any next number.
pub record AsksFewOver (app : Application) (viewer : Option ℕ) (settled : Option (List ℕ))
    (before now : ℕ) (tables : List (List Row)) : Type 0 where
  pub few : (n : ℕ) → settled ≡ None
      → AreFewEvaluations app (record { tables = tables; number = n }) viewer before now
