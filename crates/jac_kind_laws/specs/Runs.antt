-- Runs of a view without a wrong kind: each expression that a statement reaches has the kind that
-- the statement requires, and operands that fit, with the bindings and tables at that point.
use Rattle.std.specs.Prelude.{◌≡◌, ℕ, ◌<◌, ◌≤◌, ◌^◌, true, List, [], ◌∷◌, ◌++◌, length, slice_get, Option, Some, None, ⊤}
use Rattle.jac_value.specs.declared.value.Kind.{Kind}
use Rattle.jac_value.specs.declared.value.Value.{Value}
use Rattle.jac_value.specs.declared.value.Value.TheVariants as value
use Rattle.jac_lang.specs.declared.field_kinds.Field.{Field}
use Rattle.jac_lang.specs.declared.pages.Verb.{Verb}
use Rattle.jac_lang.specs.Lookup.{model_place, fields_at}
use Rattle.jac_lang.specs.Syntax.{Entity, Expression, Question, Assigned, Statement, Statements, Page, Application}
use Rattle.jac_rows.specs.declared.plain.PlainRow.{PlainRow}
use Rattle.jac_rows.specs.declared.plain.PlainState.{PlainState}
use Rattle.jac_rows.specs.Good.{IsGoodPlain}
use Rattle.jac_rows.specs.Tables.{rows_of}
use Rattle.jac_plain.specs.World.{referred_record}
use Rattle.jac_plain.specs.Expressions.{mean, look, is_true, binding, answers}
use Rattle.jac_plain.specs.Making.{with_env, MayChoose, MayEach}
use Rattle.jac_plain.specs.Models.{shapes_of, are_sited}
use Rattle.jac_plain.specs.Requests.{Visit}
use Rattle.jac_plain.specs.Statements.{Setting, Run, world_of, value_in, loop_of, id_made, is_kept, with_made, plain_row, drafted_cells, default_cells, created_cells, leaves, leaves_all}
use Rattle.jac_check.specs.Scope.{reference_to, named_fields, field_kind}
use Rattle.jac_kind_laws.specs.Fits.{AreBound, IsViewer}
use Rattle.jac_kind_laws.specs.Operands.{AreOneKind, AskedFits, OperandsFit, IsOfKind}
use Rattle.jac_kind_laws.specs.Publics.{PublicsFit}

-- The expression's operands fit, with the bindings and tables of the run. It may have any kind.
abbrev pub Fits : Setting → Expression → Run → Type 0
Fits k e r = OperandsFit (world_of k r) e r.env

-- The expression has this kind, and its operands fit, with the bindings and tables of the run.
abbrev pub FitsAs : Setting → Kind → Expression → Run → Type 0
FitsAs k want e r = IsOfKind (world_of k r) r.env want e

-- Each cell is set to a value of its field's kind.
abbrev pub CellsFit : Setting → List Field → List Assigned → Run → Type 0
CellsFit k fields [] r = ⊤
CellsFit k fields (a ∷ rest) r = FitsAs k (field_kind k.models fields a.field) a.value r
    × CellsFit k fields rest r

abbrev pub QueryFits : Setting → Question → Run → Type 0
QueryFits k q r = AskedFits (world_of k r) q.binders q.order (mean (world_of k r) q.cond)
    (OperandsFit (world_of k r) q.cond) r.env

-- The public values of the record's draft fit, if there is a record.
abbrev pub DraftFits : Setting → ℕ → List Assigned → Run → Option PlainRow → Type 0
DraftFits k m cells r None = ⊤
DraftFits k m cells r (Some old) = PublicsFit k.models m old.id
    (drafted_cells k.models (fields_at k.models m) (λ e. value_in k e r) cells old.cells)

-- The cells fit, and so do the public values of the record to which the target refers.
abbrev pub UpdateFits : Setting → Option ℕ → Value → List Assigned → Run → Type 0
UpdateFits k None target cells r = ⊥
UpdateFits k (Some m) target cells r = CellsFit k (fields_at k.models m) cells r
    × DraftFits k m cells r (referred_record target (rows_of r.tables m))

-- The cells fit, and so do the public values of the new record. So does the body, with the name
-- bound to the record.
abbrev pub CreateFits : Setting → List ℕ → Option ℕ → ℕ → List Assigned → (Run → Type 0) → Run
    → Type 0
CreateFits k name None site cells Body r = ⊥
CreateFits k name (Some m) site cells Body r =
    let id = id_made k m site in
    let made = with_made (is_kept k.models k.shown m id) m
    (plain_row id (created_cells k m id cells r)) r in
    CellsFit k (fields_at k.models m) cells r
    × DraftFits k m cells r
    (Some (plain_row id (default_cells k.models (fields_at k.models m))))
    × Body (with_env (made.env ++ binding name (value.Ref (Some id)) ∷ []) made)

abbrev mutual
  -- The statement meets no wrong kind from this run on. A template never runs.
  pub StatementFits : Setting → Statement → Run → Type 0
  StatementFits k (Statement.put e) r = Fits k e r
  StatementFits k (Statement.escape e) r = Fits k e r
  StatementFits k (Statement.bind x e body) r = Fits k e r
      × StatementsFit k body (with_env (r.env ++ binding x (value_in k e r) ∷ []) r)
  StatementFits k (Statement.assign x e) r = AreOneKind (look r.env x) (value_in k e r) × Fits k e r
  StatementFits k (Statement.branch c first second) r =
      FitsAs k Kind.Bool c r × MayChoose (is_true (value_in k c r)) (StatementsFit k first)
      (StatementsFit k second) r
  StatementFits k (Statement.each q body) r =
      QueryFits k q r
      × MayEach q.binders (λ ids. leaves_all (record k { around = loop_of ids }) body)
      (λ ids. StatementsFit (record k { around = loop_of ids }) body)
      (answers (world_of k r) q r.env) r
  StatementFits k (Statement.create x m site cells body) r = CreateFits k x (model_place k.models m)
      site cells (StatementsFit k body) r
  StatementFits k (Statement.update m e cells) r =
      FitsAs k (reference_to k.models m) e r × UpdateFits k (model_place k.models m)
      (value_in k e r) cells r
  StatementFits k (Statement.delete m e) r = FitsAs k (reference_to k.models m) e r
  StatementFits k Statement.missing r = ⊤
  StatementFits k (Statement.redirect e) r = FitsAs k Kind.Text e r
  StatementFits k (Statement.template t) r = ⊥
  StatementFits k (Statement.block body) r = StatementsFit k body r

  -- Each statement fits in the run that the statements before it leave.
  pub StatementsFit : Setting → Statements → Run → Type 0
  StatementsFit k Statements.none r = ⊤
  StatementsFit k (Statements.more s rest) r = StatementFits k s r
      × StatementsFit k rest (leaves k s r)

-- The records that a view makes have ids: the request's number and the models are small enough, and
-- the sites of the creates are below 64.
pub record HasIds (models : List Entity) (number : ℕ) (body : Statements) : Type 0 where
  pub room : number < 2 ^ 40
  pub few : length models ≤ 64
  pub sited : are_sited body ≡ true

-- A visit of the view. The state is good, and the records that a POST makes have ids. Each
-- parameter is bound to a value of its kind. The viewer is a record of the viewer model, or nobody.
pub record IsVisit (app : Application) (t : PlainState) (visit : Visit) (v : Page) : Type 0 where
  pub view : slice_get app.views visit.view ≡ Some v
  pub state : IsGoodPlain (shapes_of app) t
  pub ids : v.method ≡ Verb.Post → HasIds app.models t.number v.body
  pub params : AreBound (named_fields app.models v.params) visit.env
  pub viewer : IsViewer app.models app.viewer visit.viewer

-- The run at the beginning of a visit.
abbrev pub begun : PlainState → Visit → Run
begun t visit = record { tables = t.tables; env = visit.env; pieces = [] }
