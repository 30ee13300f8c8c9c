-- What statements that write nothing leave in the world that an assignment shows.
use Rattle.std.specs.Prelude.{◌≡◌, ℕ, Bool, true, false, List, [], ⊤}
use Rattle.jac_lang.specs.declared.application.App.{App}
use Rattle.jac_lang.specs.declared.bindings.Binding.{Binding}
use Rattle.jac_lang.specs.Syntax.{Statement, Statements}
use Rattle.jac_rows.specs.Project.{project_at}
use Rattle.jac_rows.specs.declared.plain.PlainRow.{PlainRow}
use Rattle.jac_rows.specs.declared.state.State.{State}
use Rattle.jac_world.specs.World.{shown_by}
use Rattle.jac_plain.specs.declared.context.Ctx.{Ctx}
use Rattle.jac_plain.specs.declared.page.Page.{Page}
use Rattle.jac_plain.specs.declared.page.Piece.{Piece}
use Rattle.jac_plain.specs.Requests.{page_of}
use Rattle.jac_plain.specs.Statements.{Run, leaves_all}
use Rattle.jac_pruned_pages.specs.Buffers.{BufferSeen, buffer_for, buffer_of}
use Rattle.jac_shown_rows.specs.Consulted.{Agrees}
use Rattle.jac_shown_rows.specs.declared.world_context.WorldContext.{WorldContext}
use Rattle.jac_pruned_pages.specs.declared.progress.Progress.{Progress}
use Rattle.jac_plain.specs.Shown.{setting_at}

-- A run over the tables that an assignment shows of a state.
abbrev pub run_in : (ℕ → Bool) → State → List Binding → List Piece → Run
run_in w s env pieces = record { tables = (project_at w s).tables; env = env; pieces = pieces }

-- The page of the statements, run from these bindings.
abbrev pub page_ran : App → Ctx → (ℕ → Bool) → State → List Binding → Statements → Page
page_ran app ctx w s env body = page_of (leaves_all (setting_at app ctx w) body
    (run_in w s env [])).pieces

-- The page of some pieces.
abbrev pub IsPageMade : Page → Type 0
IsPageMade p = (pieces : List Piece) × (p ≡ page_of pieces)

-- What a run leaves, with what its pieces come to.
pub record Left : Type 0 where
  pub tables : List (List PlainRow)
  pub env : List Binding
  pub page : BufferSeen

abbrev pub run_left : Run → Left
run_left r = record { tables = r.tables; env = r.env; page = buffer_for r.pieces }

-- The same for these bindings and this page, over the tables that an assignment shows of a state.
abbrev pub left_at : (ℕ → Bool) → State → List Binding → BufferSeen → Left
left_at w s env page = record { tables = (project_at w s).tables; env = env; page = page }

-- Under each assignment that agrees on the support, the step leaves the new bindings and the new
-- page, whatever pieces the page came from.
abbrev pub RunsShown : List ℕ → WorldContext → ((ℕ → Bool) → Run → Run) → State → Progress →
    Progress → Type 0
RunsShown support at step s old new =
    (w : ℕ → Bool) → Agrees support (shown_by at.assignment.now) w
    → (pieces : List Piece) → buffer_of old.page ≡ buffer_for pieces
    → left_at w s new.env.items (buffer_of new.page)
    ≡ run_left (step w (run_in w s old.env.items pieces))

abbrev mutual
  -- The statement writes nothing.
  pub IsReadingStatement : Statement → Type 0
  IsReadingStatement (Statement.put e) = ⊤
  IsReadingStatement (Statement.escape e) = ⊤
  IsReadingStatement (Statement.bind x e body) = AreReading body
  IsReadingStatement (Statement.assign x e) = ⊤
  IsReadingStatement (Statement.branch c first second) = AreReading first × AreReading second
  IsReadingStatement (Statement.each q body) = AreReading body
  IsReadingStatement (Statement.create x m site cells body) = false ≡ true
  IsReadingStatement (Statement.update m e cells) = false ≡ true
  IsReadingStatement (Statement.delete m e) = false ≡ true
  IsReadingStatement Statement.missing = ⊤
  IsReadingStatement (Statement.redirect e) = ⊤
  IsReadingStatement (Statement.template t) = ⊤
  IsReadingStatement (Statement.block body) = AreReading body

  pub AreReading : Statements → Type 0
  AreReading Statements.none = ⊤
  AreReading (Statements.more s rest) = IsReadingStatement s × AreReading rest
