-- The run of a view, in the world of each assignment.
use Rattle.std.specs.Prelude.{◌≡◌, ℕ, Bool, Option, List, [], map, None}
use Rattle.jac_facet.specs.Leaves.{leaves_seen}
use Rattle.jac_lang.specs.Syntax.{Page as View, Application}
use Rattle.jac_rows.specs.Good.{IsSound}
use Rattle.jac_rows.specs.Project.{rows_at, project_at}
use Rattle.jac_rows.specs.declared.row.Row.{Row}
use Rattle.jac_rows.specs.declared.state.State.{State}
use Rattle.jac_plain.specs.declared.page.Page.{Page}
use Rattle.jac_plain.specs.declared.page.Piece.{Piece}
use Rattle.jac_plain.specs.Making.{MayRunAll}
use Rattle.jac_plain.specs.Requests.{page_of}
use Rattle.jac_plain.specs.Statements.{Setting, Run, leaves_all}
use Rattle.jac_route.specs.Parameters.{parameters}
use Rattle.jac_write.specs.Writes.{numbered_tables}
use Rattle.jac_world.specs.World.{shown_by}
use Rattle.jac_replies.specs.declared.answer.Ask.{Ask}
use Rattle.jac_plain.specs.Policies.{IsSettled}
use Rattle.jac_policy_cache.specs.declared.viewer_cache.ViewerCache.{ViewerCache}
use Rattle.jac_policy_cache.specs.declared.invalidation.Invalidation.{Invalidation}
use Rattle.jac_resolve.specs.ValidCache.{IsValidCache}
use Rattle.jac_engine.specs.Prepared.{AreCovered}
use Rattle.jac_plain.specs.Shown.{worlds_of}

-- What stays the same during the run in the request with this number.
abbrev pub setting_in : (ℕ → Bool) → Application → Ask → ℕ → Setting
setting_in w app ask number =
    record { models = app.models; shown = w; viewer = ask.viewer; number = number; around = None }

-- The beginning of the run: the tables that the assignment shows, and the parameters.
abbrev pub begun_view : (ℕ → Bool) → Application → View → Ask → State → Run
begun_view w app v ask s = record {
  tables = (project_at w s).tables;
  env = parameters app.models v.params ask.pairs;
  pieces = [];
}

-- The interpreter's run of the view's statements.
abbrev pub ran_by : (ℕ → Bool) → Application → View → Ask → ℕ → State → Run
ran_by w app v ask number s = leaves_all (setting_in w app ask number) v.body
    (begun_view w app v ask s)

-- The records that the view creates are new, in each world.
abbrev pub MayRunView : ℕ → Application → View → Ask → ℕ → State → Type 0
MayRunView next app v ask number s = (w : ℕ → Bool)
    → MayRunAll next (setting_in w app ask number) v.body (begun_view w app v ask s)

-- Each assignment shows of these tables what the interpreter leaves. They are sound with this next
-- number.
pub record RanTables (next : ℕ) (app : Application) (v : View) (ask : Ask) (number : ℕ)
    (old : State) (tables : List (List Row)) : Type 0 where
  pub left : (w : ℕ → Bool) → map (rows_at w) tables ≡ (ran_by w app v ask number old).tables
  pub sound : IsSound (record { tables = tables; number = next })

-- The run leaves tables and pieces, if the state is sound and the records that the view creates are
-- new.
pub record RunsView (app : Application) (v : View) (ask : Ask) (number : ℕ) (old : State)
    (left : List (List Row)) (out : List (List (ℕ × Bool) × Piece)) : Type 0 where
  pub tables : (next : ℕ) → IsSound (numbered_tables next old)
      → MayRunView next app v ask number old
      → RanTables next app v ask number old left
  pub pieces : (next : ℕ) → IsSound (numbered_tables next old)
      → MayRunView next app v ask number old
      → (w : ℕ → Bool) → leaves_seen w out ≡ (ran_by w app v ask number old).pieces

pub record LeavesTables (app : Application) (v : View) (ask : Ask) (number : ℕ) (old : State)
    (tables : List (List Row)) : Type 0 where
  pub ran : (next : ℕ) → IsSound (numbered_tables next old) → MayRunView next app v ask number old
      → RanTables next app v ask number old tables

-- The page under these labels is that of the interpreter's run.
pub record ShowsView (app : Application) (v : View) (ask : Ask) (number : ℕ) (old : State)
    (labels : List ℕ) (p : Page) : Type 0 where
  pub page : (next : ℕ) → IsSound (numbered_tables next old) → MayRunView next app v ask number old
      → p ≡ page_of (ran_by (shown_by labels) app v ask number old).pieces

-- The state is sound with a next number for which the records that the view creates are new.
pub record IsReady (app : Application) (v : View) (ask : Ask) (number : ℕ)
    (s : State) : Type 0 where
  pub next : ℕ
  pub sound : IsSound (numbered_tables next s)
  pub new : MayRunView next app v ask number s

-- Over the tables, with any next number, the labels are settled and the viewer's cache is valid.
-- The invalidation covers the step from the old state to them.
pub record SettlesView (app : Application) (viewer : Option ℕ) (old : State)
    (tables : List (List Row)) (labels : List ℕ) (cache : ViewerCache)
    (invalidation : Invalidation) : Type 0 where
  pub settled : (n : ℕ)
      → IsSettled app (worlds_of (record { tables = tables; number = n })) viewer labels
  pub valid : (n : ℕ)
      → IsValidCache app (worlds_of (record { tables = tables; number = n })) viewer cache
  pub affected : (n : ℕ) → AreCovered app old (record { tables = tables; number = n }) invalidation
