-- Statements that a view may run: a GET writes nothing, a record is created outside of loops, or in
-- one loop if its model is nested, and no template is left.
use Rattle.std.specs.Prelude.{Bool, true, false, not, ◌&&◌, List, IsTrue}
use Rattle.std.specs.List.{All}
use Rattle.jac_lang.specs.Lookup.{is_nested_named}
use Rattle.jac_lang.specs.Loops.{Loops, behind_for, may_create}
use Rattle.jac_lang.specs.Syntax.{Entity, Statement, Statements, Page, Application}
use Rattle.jac_check.specs.Scope.{is_get}

-- If `get` is set, the view answers GET. The loops are those around the statement.
abbrev mutual
  pub is_runnable : Bool → List Entity → Loops → Statement → Bool
  is_runnable get models loops (Statement.put e) = true
  is_runnable get models loops (Statement.escape e) = true
  is_runnable get models loops (Statement.bind x e body) = are_runnable get models loops body
  is_runnable get models loops (Statement.assign x e) = true
  is_runnable get models loops (Statement.branch c a b) = are_runnable get models loops a &&
      are_runnable get models loops b
  is_runnable get models loops (Statement.each q body) = are_runnable get models
      (behind_for models q.binders loops) body
  is_runnable get models loops (Statement.create x m site cells body) =
      not get && (may_create (is_nested_named models m) loops && are_runnable get models loops body)
  is_runnable get models loops (Statement.update m e cells) = not get
  is_runnable get models loops (Statement.delete m e) = not get
  is_runnable get models loops Statement.missing = true
  is_runnable get models loops (Statement.redirect e) = true
  is_runnable get models loops (Statement.template t) = false
  is_runnable get models loops (Statement.block body) = are_runnable get models loops body

  pub are_runnable : Bool → List Entity → Loops → Statements → Bool
  are_runnable get models loops Statements.none = true
  are_runnable get models loops (Statements.more s ss) = is_runnable get models loops s &&
      are_runnable get models loops ss

abbrev pub IsRunnablePage : List Entity → Page → Type 0
IsRunnablePage models v = IsTrue (are_runnable (is_get v.method) models Loops.none v.body)

abbrev pub HasRunnableViews : Application → Type 0
HasRunnableViews app = All (IsRunnablePage app.models) app.views
