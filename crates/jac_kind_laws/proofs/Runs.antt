-- No statement of a well-formed view meets a wrong kind, and the tables and bindings that it leaves
-- fit again.
use Rattle.std.proofs.Common.{◌≡◌, refl, subst, ℕ, zero, suc, ◌<◌, nat_lt, Bool, true, false, not, ◌&&◌, List, [], ◌∷◌, ◌++◌, length, slice_get, Option, Some, None, is_some, unwrap_or, IsTrue, arith}
use Rattle.std.specs.List.{AllByRecursion}
use Rattle.std.proofs.lemmas.Bool.{and_parts}
use Rattle.jac_value.specs.declared.value.Kind.{Kind}
use Rattle.jac_value.specs.declared.value.Value.{Value}
use Rattle.jac_value.specs.declared.value.Value.TheVariants as value
use Rattle.jac_value.specs.Values.{value_text}
use Rattle.jac_lang.specs.declared.bindings.Binding.{Binding}
use Rattle.jac_lang.specs.declared.field_kinds.Field.{Field}
use Rattle.jac_lang.specs.declared.pages.Verb.{Verb}
use Rattle.jac_lang.specs.declared.pages.Verb.TheVariants as verbs
use Rattle.jac_lang.specs.declared.queries.Binder.{Binder}
use Rattle.jac_lang.specs.Lookup.{model_place, fields_at, is_nested_named}
use Rattle.jac_lang.specs.Loops.{may_create}
use Rattle.jac_lang.specs.Syntax.{Expression, Assigned, Statement, Statements, Page, Application}
use Rattle.jac_rows.specs.declared.plain.PlainState.{PlainState}
use Rattle.jac_plain.specs.declared.page.Piece.{Piece}
use Rattle.jac_plain.specs.declared.page.Piece.TheVariants as piece
use Rattle.jac_plain.specs.Expressions.{is_true, bound, binding, bytes_of, answers}
use Rattle.jac_plain.specs.Making.{with_env, MayChoose, MayEach}
use Rattle.jac_plain.specs.Models.{is_sited, are_sited}
use Rattle.jac_plain.specs.Requests.{Visit, setting_of}
use Rattle.jac_value.specs.Html.{html}
use Rattle.jac_plain.specs.Statements.{Setting, Run, world_of, value_in, with_piece, scoped_run, choose, for_each, loop_of, id_made, is_kept, with_made, plain_row, created_cells, create_run, update_run, delete_run, leaves, leaves_all}
use Rattle.jac_check.specs.Scope.{Named, Standing, is_get, page_standing, scope_name, named_binders, scope_at, bind, loop_within, within, reference_to, fields_of, fields_placed, field_kind}
use Rattle.jac_check.specs.Kinds.{has, is_model, is_query, kind_of}
use Rattle.jac_check.specs.Well.{kind_here, are_named, are_kinds, are_cells, is_statement, is_body, are_fields, are_pages, are_models, is_well}
use Rattle.jac_kind_laws.specs.Fits.{Has, AreBound, IsViewer}
use Rattle.jac_kind_laws.specs.Runs.{Fits, FitsAs, CellsFit, CreateFits, UpdateFits, StatementFits, StatementsFit, HasIds, IsVisit, begun}
use Rattle.jac_kind_laws.proofs.Tables.{AreFit, good_fit}
use Rattle.jac_kind_laws.proofs.Tuples.{Refer, bound_fits, bound_more, Suits}
use Rattle.jac_kind_laws.proofs.Operands.{Known, of_kind}
use Rattle.jac_kind_laws.proofs.Means.{means, asked_fits, answers_in}
use Rattle.jac_kind_laws.proofs.Writes.{CanCreate, HasPublics, id_fits, new_draft, old_draft, created_fit, updated_fit, deleted_fit}
use Rattle.jac_kind_laws.proofs.Models.{models_fit, models_well}
use Rattle.jac_kind_laws.proofs.Bindings.{outer_bound, assign_fits}

-- The standing, with the models of the setting.
abbrev at : Setting → Standing → Standing
at k st = record st { models = k.models }

-- The names, the viewer and the tables of the run fit the standing.
record Stands (st : Standing) (k : Setting) (r : Run) : Type 0 where
  names : AreBound st.names r.env
  viewer : IsViewer k.models st.viewers k.viewer
  tables : AreFit k.models r.tables

-- From each run that fits the standing, no wrong kind is met, and the run fits it again afterwards.
abbrev Goes : Setting → Standing → (Run → Run) → (Run → Type 0) → Type 0
Goes k st step Meets = (r : Run) → Stands st k r → Meets r × Stands st k (step r)

-- The scope of an expression of the statement.
suits : (k : Setting) (st : Standing) (r : Run) → Stands st k r → Suits (scope_at (at k st)) (world_of k r) r.env
suits k st r g = record { bindings = g.names; this = tt; viewer = g.viewer; tables = g.tables }

known : (k : Setting) (st : Standing) (e : Expression) (r : Run) → Stands st k r → Known (kind_here (at k st) e) (value_in k e r) (Fits k e r)
known k st e r g kind h = means (world_of k r) e (scope_at (at k st)) r.env kind (suits k st r g) h

fits_as : (k : Setting) (st : Standing) (want : Kind) (e : Expression) (r : Run) → Stands st k r → has want (kind_here (at k st) e) ≡ true → FitsAs k want e r
fits_as k st want e r g h = of_kind (kind_here (at k st) e) want (value_in k e r) (Fits k e r) (known k st e r g) h

-- The kind of a `let`.
let_fits : (o : Option Kind) (v : Value) (P : Type 0) → Known o v P → is_some o ≡ true → Has (unwrap_or o Kind.Int) v × P
let_fits None v P known h = cc
let_fits (Some kind) v P known h = known kind refl

bound_as : (k : Setting) (st : Standing) (e : Expression) (r : Run) → Stands st k r → is_some (kind_here (at k st) e) ≡ true
    → Has (unwrap_or (kind_here (at k st) e) Kind.Int) (value_in k e r) × Fits k e r
bound_as k st e r g h = let_fits (kind_here (at k st) e) (value_in k e r) (Fits k e r) (known k st e r g) h

with_a_piece : (k : Setting) (st : Standing) (p : Piece) (r : Run) → Stands st k r → Stands st k (with_piece p r)
with_a_piece k st p r g = record { names = g.names; viewer = g.viewer; tables = g.tables }

put_goes : (k : Setting) (st : Standing) (e : Expression) (p : Run → Piece) → is_some (kind_here (at k st) e) ≡ true → Goes k st (λ r. with_piece (p r) r) (Fits k e)
put_goes k st e p h r g = ((bound_as k st e r g h).1, with_a_piece k st (p r) r g)

-- A body with more names, which are gone after it.
scope_goes : (k : Setting) (st inner : Standing) (more : List Named) (env : List Binding) (body : Run → Run) (Meets : Run → Type 0)
    → inner.viewers ≡ st.viewers → inner.names ≡ st.names ++ more → Goes k inner body Meets
    → (r : Run) → Stands st k r → AreBound (st.names ++ more) env → Meets (with_env env r) × Stands st k (scoped_run env body r)
scope_goes k st inner more env body Meets same names goes r g h =
    let start : AreBound inner.names env = rw names h in
    let B = goes (with_env env r) (record { names = start; viewer = rw same g.viewer; tables = g.tables }) in
    let after : AreBound (st.names ++ more) (body (with_env env r)).env = subst (λ (ns : List Named). AreBound ns (body (with_env env r)).env) names B.1.names in
    (B.0, record { names = outer_bound st.names more r.env (body (with_env env r)).env g.names after; viewer = g.viewer; tables = B.1.tables })

-- A body with one more name.
bind_goes : (k : Setting) (st : Standing) (x : List ℕ) (kind : Kind) (by_let : Bool) (v : Value) (body : Run → Run) (Meets : Run → Type 0) → Goes k (bind st x kind by_let) body Meets
    → (r : Run) → Stands st k r → Has kind v → Meets (with_env (r.env ++ binding x v ∷ []) r) × Stands st k (scoped_run (r.env ++ binding x v ∷ []) body r)
bind_goes k st x kind by_let v body Meets goes r g h =
    scope_goes k st (bind st x kind by_let) (scope_name x kind by_let ∷ []) (r.env ++ binding x v ∷ []) body Meets refl refl goes r g
    (bound_more st.names r.env (scope_name x kind by_let) (binding x v) g.names refl h)

choice_goes : (k : Setting) (st : Standing) (c : Bool) (first second : Run → Run) (First Second : Run → Type 0) → Goes k st first First → Goes k st second Second
    → Goes k st (choose c first second) (MayChoose c First Second)
choice_goes k st true first second First Second one two r g = one r g
choice_goes k st false first second First Second one two r g = two r g

-- In a loop, around any record.
around_goes : (k : Setting) (st : Standing) (around : Option ℕ) (step : Run → Run) (Meets : Run → Type 0) → Goes (record k { around = around }) st step Meets → Goes k st step Meets
around_goes k st around step Meets goes r g =
    let B = goes r (record { names = g.names; viewer = g.viewer; tables = g.tables }) in
    (B.0, record { names = B.1.names; viewer = B.1.viewer; tables = B.1.tables })

creates_around : (k : Setting) (around : Option ℕ) → CanCreate k → CanCreate (record k { around = around })
creates_around k around h = record { some = h.some; room = h.room; few = h.few }

each_goes : (k : Setting) (st : Standing) (bs : List Binder) (body : List ℕ → Run → Run) (Meets : List ℕ → Run → Type 0) → ((ids : List ℕ) → Goes k (loop_within bs (at k st)) (body ids) (Meets ids))
    → (tuples : List (List ℕ)) → AllByRecursion (Refer k.models bs) tuples → Goes k st (for_each bs body tuples) (MayEach bs body Meets tuples)
each_goes k st bs body Meets goes [] a r g = (tt, g)
each_goes k st bs body Meets goes (ids ∷ tuples) a r g =
    let B = scope_goes k st (loop_within bs (at k st)) (named_binders k.models bs) (bound bs ids r.env) (body ids) (Meets ids) refl refl (goes ids) r g (bound_fits k.models bs ids st.names r.env g.names a.0) in
    let rest = each_goes k st bs body Meets goes tuples a.1 (scoped_run (bound bs ids r.env) (body ids) r) B.1 in
    ((B.0, rest.0), rest.1)

cells_fit : (k : Setting) (st : Standing) (fields : List Field) (cells : List Assigned) (r : Run) → Stands st k r → are_kinds (scope_at (at k st)) fields cells ≡ true → CellsFit k fields cells r
cells_fit k st fields [] r g h = tt
cells_fit k st fields (a ∷ rest) r g h =
    let p = and_parts (has (field_kind k.models fields a.field) (kind_here (at k st) a.value)) (are_kinds (scope_at (at k st)) fields rest) h in
    (fits_as k st (field_kind k.models fields a.field) a.value r g p.0, cells_fit k st fields rest r g p.1)

-- A new record, and the body with its name.
create_goes : (k : Setting) (st : Standing) (x name : List ℕ) (place : Option ℕ) (site : ℕ) (cells : List Assigned) (body : Run → Run) (Meets : Run → Type 0)
    → CanCreate k → HasPublics k → site < 64 → model_place k.models name ≡ place → is_some place ≡ true → are_kinds (scope_at (at k st)) (fields_placed k.models place) cells ≡ true
    → Goes k (bind st x (Kind.Ref (unwrap_or place (length k.models))) false) body Meets
    → Goes k st (create_run k x place site cells body) (CreateFits k x place site cells Meets)
create_goes k st x name None site cells body Meets ids publics few is there h goes r g = cc
create_goes k st x name (Some m) site cells body Meets ids publics few is there h goes r g =
    let id = id_made k m site in
    let kept = is_kept k.models k.shown m id in
    let made = with_made kept m (plain_row id (created_cells k m id cells r)) r in
    let new = id_fits k name site m ids few is in
    let B = bind_goes k st x (Kind.Ref m) false (value.Ref (Some id)) body Meets goes made (record { names = g.names; viewer = g.viewer; tables = created_fit k m id kept cells r new g.tables }) new in
    ((cells_fit k st (fields_at k.models m) cells r g h, new_draft k m id cells r publics new, B.0), B.1)

update_fits : (k : Setting) (st : Standing) (place : Option ℕ) (target : Value) (cells : List Assigned) (r : Run) → Stands st k r → HasPublics k → is_some place ≡ true
    → are_kinds (scope_at (at k st)) (fields_placed k.models place) cells ≡ true → UpdateFits k place target cells r
update_fits k st None target cells r g publics there h = cc
update_fits k st (Some m) target cells r g publics there h = (cells_fit k st (fields_at k.models m) cells r g h, old_draft k m target cells r publics g.tables)

-- What an update and a delete leave.
update_stands : (k : Setting) (st : Standing) (place : Option ℕ) (target : Value) (cells : List Assigned) (r : Run) → Stands st k r → Stands st k (update_run k place target cells r)
update_stands k st None target cells r g = g
update_stands k st (Some m) target cells r g = record { names = g.names; viewer = g.viewer; tables = updated_fit k (Some m) target cells r g.tables }

delete_stands : (k : Setting) (st : Standing) (place : Option ℕ) (target : Value) (r : Run) → Stands st k r → Stands st k (delete_run place target r)
delete_stands k st None target r g = g
delete_stands k st (Some m) target r g = record { names = g.names; viewer = g.viewer; tables = deleted_fit k.models (Some m) target r g.tables }

is_false : (b : Bool) → not b ≡ true → b ≡ false
is_false true h = cc
is_false false h = refl

mutual
  statement_goes : (k : Setting) (st : Standing) (s : Statement) → (st.is_get ≡ false → CanCreate k) → HasPublics k → (st.is_get ≡ false → is_sited s ≡ true) → is_statement (at k st) s ≡ true → Goes k st (leaves k s) (StatementFits k s)
  statement_goes k st (Statement.put e) ids publics sited h r g = put_goes k st e (λ run. piece.Added (value_text (value_in k e run))) h r g
  statement_goes k st (Statement.escape e) ids publics sited h r g = put_goes k st e (λ run. piece.Added (html (value_text (value_in k e run)))) h r g
  statement_goes k st (Statement.bind x e body) ids publics sited h r g =
      let kind = unwrap_or (kind_here (at k st) e) Kind.Int in
      let p = and_parts (is_some (kind_here (at k st) e)) (is_body (bind (at k st) x kind true) body) h in
      let E = bound_as k st e r g p.0 in
      let B = bind_goes k st x kind true (value_in k e r) (leaves_all k body) (StatementsFit k body) (body_goes k (bind st x kind true) body ids publics sited p.1) r g E.0 in
      ((E.1, B.0), B.1)
  statement_goes k st (Statement.assign x e) ids publics sited h r g =
      let A = assign_fits st.names r.env x (kind_here (at k st) e) (value_in k e r) (Fits k e r) g.names (known k st e r g) h in
      (A.0, record { names = A.1; viewer = g.viewer; tables = g.tables })
  statement_goes k st (Statement.branch c first second) ids publics sited h r g =
      let p = and_parts (has Kind.Bool (kind_here (at k st) c)) _ h in
      let q = and_parts (is_body (at k st) first) (is_body (at k st) second) p.1 in
      let B = choice_goes k st (is_true (value_in k c r)) (leaves_all k first) (leaves_all k second) (StatementsFit k first) (StatementsFit k second)
      (body_goes k st first ids publics (λ post. (and_parts (are_sited first) (are_sited second) (sited post)).0) q.0)
      (body_goes k st second ids publics (λ post. (and_parts (are_sited first) (are_sited second) (sited post)).1) q.1) r g in
      ((fits_as k st Kind.Bool c r g p.0, B.0), B.1)
  statement_goes k st (Statement.each q body) ids publics sited h r g =
      let w = world_of k r in
      let s = scope_at (at k st) in
      let p = and_parts (is_query s q.binders q.order (kind_of (within q.binders s) q.cond)) (is_body (loop_within q.binders (at k st)) body) h in
      let asked = asked_fits w s r.env q.binders q.cond q.order (suits k st r g) (means w q.cond) p.0 in
      let tuples = answers_in w s r.env q.binders q.cond q.order (suits k st r g) in
      let inner = loop_within q.binders (at k st) in
      let B = each_goes k st q.binders (λ tuple. leaves_all (record k { around = loop_of tuple }) body) (λ tuple. StatementsFit (record k { around = loop_of tuple }) body)
      (λ tuple.
      let around = loop_of tuple in
      let here : Setting = record k { around = around } in
      around_goes k inner around (leaves_all here body) (StatementsFit here body)
      (body_goes here inner body (λ post. creates_around k around (ids post)) publics sited p.1))
      (answers w q r.env) tuples r g in
      ((asked, B.0), B.1)
  statement_goes k st (Statement.create x m site cells body) ids publics sited h r g =
      let writes = and_parts (not st.is_get) _ h in
      let post = is_false st.is_get writes.0 in
      let p = and_parts (may_create (is_nested_named k.models m) st.loops) _ writes.1 in
      let q = and_parts (are_cells (at k st) m cells) (is_body (bind (at k st) x (reference_to k.models m) false) body) p.1 in
      let c = and_parts (is_model k.models m) _ q.0 in
      let few : nat_lt site 64 ≡ true = (and_parts (nat_lt site 64) (are_sited body) (sited post)).0 in
      create_goes k st x m (model_place k.models m) site cells (leaves_all k body) (StatementsFit k body) (ids post) publics (grind (arith, few)) refl c.0 (and_parts (are_named (fields_of k.models m) [] cells) _ c.1).1
      (body_goes k (bind st x (reference_to k.models m) false) body ids publics (λ on. (and_parts (nat_lt site 64) (are_sited body) (sited on)).1) q.1) r g
  statement_goes k st (Statement.update m e cells) ids publics sited h r g =
      let p = and_parts (are_cells (at k st) m cells) (has (reference_to k.models m) (kind_here (at k st) e)) (and_parts (not st.is_get) _ h).1 in
      let c = and_parts (is_model k.models m) _ p.0 in (
        (fits_as k st (reference_to k.models m) e r g p.1, update_fits k st (model_place k.models m) (value_in k e r) cells r g publics c.0 (and_parts (are_named (fields_of k.models m) [] cells) _ c.1).1),
        update_stands k st (model_place k.models m) (value_in k e r) cells r g,
      )
  statement_goes k st (Statement.delete m e) ids publics sited h r g =
      let p = and_parts (is_model k.models m) (has (reference_to k.models m) (kind_here (at k st) e)) (and_parts (not st.is_get) _ h).1 in (
        fits_as k st (reference_to k.models m) e r g p.1,
        delete_stands k st (model_place k.models m) (value_in k e r) r g,
      )
  statement_goes k st Statement.missing ids publics sited h r g = (tt, with_a_piece k st piece.Missing r g)
  statement_goes k st (Statement.redirect e) ids publics sited h r g = (fits_as k st Kind.Text e r g h, with_a_piece k st (piece.Redirect (bytes_of (value_in k e r))) r g)
  statement_goes k st (Statement.template t) ids publics sited h r g = cc
  statement_goes k st (Statement.block body) ids publics sited h r g = body_goes k st body ids publics sited h r g

  body_goes : (k : Setting) (st : Standing) (ss : Statements) → (st.is_get ≡ false → CanCreate k) → HasPublics k → (st.is_get ≡ false → are_sited ss ≡ true) → is_body (at k st) ss ≡ true → Goes k st (leaves_all k ss) (StatementsFit k ss)
  body_goes k st Statements.none ids publics sited h r g = (tt, g)
  body_goes k st (Statements.more s rest) ids publics sited h r g =
      let p = and_parts (is_statement (at k st) s) (is_body (at k st) rest) h in
      let S = statement_goes k st s ids publics (λ post. (and_parts (is_sited s) (are_sited rest) (sited post)).0) p.0 r g in
      let R = body_goes k st rest ids publics (λ post. (and_parts (is_sited s) (are_sited rest) (sited post)).1) p.1 (leaves k s r) S.1 in
      ((S.0, R.0), R.1)

-- A view of a well-formed application is well-formed.
page_well : (app : Application) (vs : List Page) (i : ℕ) (v : Page) → are_pages app vs ≡ true → slice_get vs i ≡ Some v → is_body (page_standing app v) v.body ≡ true
page_well app [] i v h e = cc
page_well app (u ∷ vs) zero v h e =
    let p = and_parts _ (are_pages app vs) h in
    let here = (and_parts _ (is_body (page_standing app u) u.body) (and_parts (are_fields app.models [] u.params) _ p.0).1).1 in
    let same : u ≡ v = cc in
    subst (λ (x : Page). is_body (page_standing app x) x.body ≡ true) same here
page_well app (u ∷ vs) (suc i) v h e = page_well app vs i v (and_parts _ (are_pages app vs) h).1 e

is_post : (m : Verb) → is_get m ≡ false → m ≡ Verb.Post
is_post verbs.Get h = cc
is_post verbs.Post h = refl

-- No run of a view of a well-formed application meets a wrong kind.
pub visits_fit : (w : ℕ → Bool) (app : Application) (t : PlainState) (visit : Visit) (v : Page) → IsTrue (is_well app) → IsVisit app t visit v
    → StatementsFit (setting_of w app t visit) v.body (begun t visit)
visits_fit w app t visit v h g =
    let k = setting_of w app t visit in
    let models = models_well app h in
    let well = page_well app app.views visit.view v (and_parts (are_models app [] app.models) (are_pages app app.views) (and_parts _ (are_models app [] app.models && are_pages app app.views) h).1).1 g.view in
    let asked : is_get v.method ≡ false → HasIds app.models t.number v.body = λ h. g.ids (is_post v.method h) in
    let ids : is_get v.method ≡ false → CanCreate k = λ h. record { some = g.state.0.0; room = (asked h).room; few = (asked h).few } in
    let start : Stands (page_standing app v) k (begun t visit) = record {
      names = g.params;
      viewer = g.viewer;
      tables = good_fit app.models t.tables (record { next = t.number; good = g.state });
    } in
    (body_goes k (page_standing app v) v.body ids (models_fit app models) (λ h. (asked h).sited) well (begun t visit) start).0
