-- An application is well exactly if it has no fault.
use Rattle.std.proofs.Common.{◌≡◌, ◌∙◌, refl, ap, ℕ, ◌+◌, Bool, true, false, not, ◌&&◌, ◌||◌, List, [], ◌∷◌, ◌++◌, Option, Some, None, is_some, is_none, unwrap_or, codes, IsTrue}
use Rattle.jac_value.specs.declared.value.Kind.{Kind}
use Rattle.jac_value.specs.Paths.{segments, names_in}
use Rattle.jac_lang.specs.declared.field_kinds.Field.{Field}
use Rattle.jac_lang.specs.declared.field_kinds.KindName.{KindName}
use Rattle.jac_lang.specs.declared.field_kinds.KindName.TheVariants as names
use Rattle.jac_lang.specs.declared.queries.Binder.{Binder}
use Rattle.jac_lang.specs.declared.queries.Order.{Order}
use Rattle.jac_lang.specs.Lookup.{is_nested_named}
use Rattle.jac_lang.specs.Loops.{may_create}
use Rattle.jac_lang.specs.Syntax.{Entity, Expression, Assigned, Statement, Statements, FieldGroup, Page, Application}
use Rattle.jac_check.specs.declared.fault.CheckFault.{CheckFault}
use Rattle.jac_check.specs.declared.fault.Place.{Place}
use Rattle.jac_check.specs.declared.names.Meaning.{Meaning}
use Rattle.jac_check.specs.Scope.{Scope, meaning_of, within, reference_to, fields_of, field_kind, is_one_of, Standing, scope_at, bind, loop_within, has_field, has_model, is_guarded, is_hiding, policy_scope, public_scope, page_standing}
use Rattle.jac_check.specs.Kinds.{has, kind_of, is_field, is_query}
use Rattle.jac_check.specs.Well.{kind_here, are_named, are_kinds, is_assigned, is_statement, is_body, is_kind, are_fields, are_guards, are_groups, are_models, are_params, are_pages, is_viewer, is_well}
use Rattle.jac_check.specs.Verdict.{Reason, Verdict, ◌before◌, fault_if, fault_unless, fault_in, not_a, of_kind}
use Rattle.jac_check.specs.NameFaults.{unknown_model, unknown_field, binder_fault, order_fault}
use Rattle.jac_check.specs.Expressions.{verdict, kind_or, asked_fault}
use Rattle.jac_check.specs.Statements.{verdict_at, cells_names, cells_inside, cells_kinds, assigned_fault, query_fault, loop_reason, loop_fault, statement_fault, body_fault}
use Rattle.jac_check.specs.Causes.{fault_at}
use Rattle.jac_check.specs.Applications.{kind_fault, field_fault, fields_fault, guard_fault, guards_fault, group_fault, groups_fault, model_fault, models_fault, path_fault, page_fault, pages_fault, viewers_fault, first_fault}
use Rattle.jac_check.proofs.WellKinds.{kind_judged, kinds-law, none_before, and_false, model-known, field-known, has-kind, query-well, query-step, parts-step}

both : (p q : Bool) (o r : Option Reason) → p ≡ is_none o → q ≡ is_none r → (p && q) ≡ is_none (o before r)
both p q o r h k = rw (h, k) (none_before o r)

some-kind : (v : Verdict) → is_some (kind_judged v) ≡ is_none (fault_in v)
some-kind (Verdict.kind k) = refl
some-kind (Verdict.fault cause) = refl

bound-kind : (v : Verdict) → unwrap_or (kind_judged v) Kind.Int ≡ kind_or Kind.Int v
bound-kind (Verdict.kind k) = refl
bound-kind (Verdict.fault cause) = refl

kind-well : (k : Kind) (v : Verdict) → has k (kind_judged v) ≡ is_none (of_kind k v)
kind-well k v = has-kind k v ∙ none_before (fault_in v) (not_a k v)

expression-some : (s : Scope) (e : Expression) → is_some (kind_of s e) ≡ is_none (fault_in (verdict s e))
expression-some s e = ap (λ (k : Option Kind). is_some k) (kinds-law s e) ∙ some-kind (verdict s e)

expression-kind : (s : Scope) (k : Kind) (e : Expression) → has k (kind_of s e) ≡ is_none (of_kind k (verdict s e))
expression-kind s k e = ap (has k) (kinds-law s e) ∙ kind-well k (verdict s e)

-- A name is known, it is new, and then the rest.
new-step : (o : Option Reason) (b : Bool) (cause : Reason) (r : Option Reason) → (is_none o && (not b && is_none r)) ≡ is_none (o before fault_if b cause before r)
new-step (Some c) b cause r = refl
new-step None true cause r = refl
new-step None false cause r = refl

if-step : (b : Bool) (cause : Reason) (r : Option Reason) → (not b && is_none r) ≡ is_none (fault_if b cause before r)
if-step true cause r = refl
if-step false cause r = refl

unless-step : (b : Bool) (cause : Reason) (r : Option Reason) → (b && is_none r) ≡ is_none (fault_unless b cause before r)
unless-step true cause r = refl
unless-step false cause r = refl

named-well : (fs : List Field) (seen : List (List ℕ)) (cells : List Assigned) → are_named fs seen cells ≡ is_none (cells_names fs seen cells)
named-well fs seen [] = refl
named-well fs seen (g ∷ gs) =
    rw (field-known fs g.field, named-well fs (g.field ∷ seen) gs) (new-step (unknown_field fs g.field) (is_one_of g.field seen) (Reason.twice g.field) (cells_names fs (g.field ∷ seen) gs))

kinds-well : (s : Scope) (fs : List Field) (cells : List Assigned) → are_kinds s fs cells ≡ (is_none (cells_inside s cells) && is_none (cells_kinds s fs cells))
kinds-well s fs [] = refl
kinds-well s fs (g ∷ gs) =
    let v = verdict s g.value in
    let k = field_kind s.models fs g.field in
    let head : has k (kind_of s g.value) ≡ (is_none (fault_in v) && is_none (not_a k v)) = ap (has k) (kinds-law s g.value) ∙ has-kind k v in
    rw (head, kinds-well s fs gs) (
    parts-step (is_none (fault_in v)) (is_none (cells_inside s gs)) (is_none (not_a k v)) (is_none (cells_kinds s fs gs))
    ∙ ap (λ (b : Bool). b && (is_none (not_a k v) && is_none (cells_kinds s fs gs))) (none_before (fault_in v) (cells_inside s gs))
    ∙ ap (λ (b : Bool). is_none (fault_in v before cells_inside s gs) && b) (none_before (not_a k v) (cells_kinds s fs gs)))

create-step : (g may : Bool) (c : Reason) (U N L I K B : Option Reason) → may ≡ is_none L
    → (not g && (may && ((is_none U && (is_none N && (is_none I && is_none K))) && is_none B)))
    ≡ is_none ((fault_if g c before U before N before L before I before K) before B)
create-step true may c U N L I K B e = refl
create-step false may c (Some u) N L I K B e = and_false may
create-step false may c None (Some n) L I K B e = and_false may
create-step false may c None None (Some l) I K B e = rw e refl
create-step false may c None None None (Some i) K B e = and_false may
create-step false may c None None None None (Some k) B e = and_false may
create-step false may c None None None None None (Some b) e = and_false may
create-step false may c None None None None None None e = rw e refl

loop-well : (may : Bool) (cause : Reason) → may ≡ is_none (fault_unless may cause)
loop-well true cause = refl
loop-well false cause = refl

update-step : (g : Bool) (c : Reason) (U N F I A K : Option Reason)
    → (not g && ((is_none U && (is_none N && (is_none I && is_none K))) && (is_none F && is_none A)))
    ≡ is_none (fault_if g c before U before N before F before I before A before K)
update-step true c U N F I A K = refl
update-step false c (Some u) N F I A K = refl
update-step false c None (Some n) F I A K = refl
update-step false c None None (Some f) I A K = and_false (is_none I && is_none K)
update-step false c None None None (Some i) A K = refl
update-step false c None None None None (Some a) K = and_false (is_none K)
update-step false c None None None None None (Some k) = refl
update-step false c None None None None None None = refl

delete-step : (g : Bool) (c : Reason) (U O : Option Reason) → (not g && (is_none U && is_none O)) ≡ is_none (fault_if g c before U before O)
delete-step true c U O = refl
delete-step false c U O = none_before U O

assign-well : (m : Option Meaning) (v : Verdict) → is_assigned m (kind_judged v) ≡ is_none (assigned_fault m v)
assign-well None v = refl
assign-well (Some m) v = ap (λ (b : Bool). m.by_let && b) (kind-well m.kind v) ∙ unless-step m.by_let _ (of_kind m.kind v)

query-law : (s : Scope) (word : List ℕ) (bs : List Binder) (o : Order) (c : Expression) → is_query s bs o (kind_of (within bs s) c) ≡ is_none (asked_fault s word bs o (verdict (within bs s) c))
query-law s word bs o c =
    let v = verdict (within bs s) c in
    ap (is_query s bs o) (kinds-law (within bs s) c) ∙ query-well s bs o v
    ∙ query-step s.is_public (Reason.not_here word) (binder_fault s.models [] bs) (order_fault s.models bs o) v

mutual
  statement-law : (st : Standing) (s : Statement) → is_statement st s ≡ is_none (statement_fault st s)
  statement-law st (Statement.put e) = expression-some (scope_at st) e
  statement-law st (Statement.escape e) = expression-some (scope_at st) e
  statement-law st (Statement.bind x e body) =
      let v = verdict_at st e in
      let kind : unwrap_or (kind_here st e) Kind.Int ≡ kind_or Kind.Int v = ap (λ (k : Option Kind). unwrap_or k Kind.Int) (kinds-law (scope_at st) e) ∙ bound-kind v in
      both (is_some (kind_here st e)) (is_body (bind st x (unwrap_or (kind_here st e) Kind.Int) true) body) (fault_in v) (body_fault (bind st x (kind_or Kind.Int v) true) body)
      (expression-some (scope_at st) e) (ap (λ (k : Kind). is_body (bind st x k true) body) kind ∙ body-law (bind st x (kind_or Kind.Int v) true) body)
  statement-law st (Statement.assign x e) = ap (is_assigned (meaning_of st.names x)) (kinds-law (scope_at st) e) ∙ assign-well (meaning_of st.names x) (verdict_at st e)
  statement-law st (Statement.branch c a b) =
      both (has Kind.Bool (kind_here st c)) (is_body st a && is_body st b) (of_kind Kind.Bool (verdict_at st c)) (body_fault st a before body_fault st b)
      (expression-kind (scope_at st) Kind.Bool c) (both (is_body st a) (is_body st b) (body_fault st a) (body_fault st b) (body-law st a) (body-law st b))
  statement-law st (Statement.each q body) =
      both (is_query (scope_at st) q.binders q.order (kind_of (within q.binders (scope_at st)) q.cond)) (is_body (loop_within q.binders st) body)
      (query_fault st q) (body_fault (loop_within q.binders st) body)
      (query-law (scope_at st) (codes "for") q.binders q.order q.cond) (body-law (loop_within q.binders st) body)
  statement-law st (Statement.create x m site cells body) =
      let inner = bind st x (reference_to st.models m) false in
      rw (model-known st.models m, named-well (fields_of st.models m) [] cells, kinds-well (scope_at st) (fields_of st.models m) cells, body-law inner body)
      (create-step st.is_get (may_create (is_nested_named st.models m) st.loops) _ (unknown_model st.models m) (cells_names (fields_of st.models m) [] cells) (loop_fault st m)
      (cells_inside (scope_at st) cells) (cells_kinds (scope_at st) (fields_of st.models m) cells) (body_fault inner body)
      (loop-well (may_create (is_nested_named st.models m) st.loops) (loop_reason (is_nested_named st.models m) m)))
  statement-law st (Statement.update m e cells) =
      let v = verdict_at st e in
      let k = reference_to st.models m in
      let target : has k (kind_here st e) ≡ (is_none (fault_in v) && is_none (not_a k v)) = ap (has k) (kinds-law (scope_at st) e) ∙ has-kind k v in
      rw (model-known st.models m, named-well (fields_of st.models m) [] cells, kinds-well (scope_at st) (fields_of st.models m) cells, target)
      (update-step st.is_get _ (unknown_model st.models m) (cells_names (fields_of st.models m) [] cells) (fault_in v)
      (cells_inside (scope_at st) cells) (not_a k v) (cells_kinds (scope_at st) (fields_of st.models m) cells))
  statement-law st (Statement.delete m e) =
      rw (model-known st.models m, expression-kind (scope_at st) (reference_to st.models m) e)
      (delete-step st.is_get _ (unknown_model st.models m) (of_kind (reference_to st.models m) (verdict_at st e)))
  statement-law st Statement.missing = refl
  statement-law st (Statement.redirect e) = expression-kind (scope_at st) Kind.Text e
  statement-law st (Statement.template t) = refl
  statement-law st (Statement.block body) = body-law st body

  body-law : (st : Standing) (ss : Statements) → is_body st ss ≡ is_none (body_fault st ss)
  body-law st Statements.none = refl
  body-law st (Statements.more s ss) =
      both (is_statement st s) (is_body st ss) (statement_fault st s) (body_fault st ss) (statement-law st s) (body-law st ss)

kind-known : (ms : List Entity) (k : KindName) → is_kind ms k ≡ is_none (kind_fault ms k)
kind-known ms names.Int = refl
kind-known ms names.Text = refl
kind-known ms names.Bool = refl
kind-known ms (names.Ref m) = model-known ms m

fields-law : (ms : List Entity) (earlier fs : List Field) → are_fields ms earlier fs ≡ is_none (fields_fault ms earlier fs)
fields-law ms earlier [] = refl
fields-law ms earlier (f ∷ fs) =
    both (not (has_field f.name earlier) && is_kind ms f.kind) (are_fields ms (earlier ++ f ∷ []) fs) (field_fault ms earlier f) (fields_fault ms (earlier ++ f ∷ []) fs)
    (ap (λ (b : Bool). not (has_field f.name earlier) && b) (kind-known ms f.kind) ∙ if-step (has_field f.name earlier) (Reason.twice f.name) (kind_fault ms f.kind))
    (fields-law ms (earlier ++ f ∷ []) fs)

guards-law : (app : Application) (m : Entity) (earlier : List FieldGroup) (seen : List (List ℕ)) (gs : List Assigned) → are_guards app m earlier seen gs ≡ is_none (guards_fault app m earlier seen gs)
guards-law app m earlier seen [] = refl
guards-law app m earlier seen (g ∷ gs) =
    let k = field_kind app.models m.fields g.field in
    let again = is_guarded g.field earlier || is_one_of g.field seen in
    both (is_field m.fields g.field && (not again && has k (kind_of (public_scope app m) g.value))) (are_guards app m earlier (g.field ∷ seen) gs)
    (guard_fault app m earlier seen g) (guards_fault app m earlier (g.field ∷ seen) gs)
    (rw (field-known m.fields g.field, expression-kind (public_scope app m) k g.value)
    (new-step (unknown_field m.fields g.field) again (Reason.twice g.field) (of_kind k (verdict (public_scope app m) g.value))))
    (guards-law app m earlier (g.field ∷ seen) gs)

groups-law : (app : Application) (m : Entity) (earlier gs : List FieldGroup) → are_groups app m earlier gs ≡ is_none (groups_fault app m earlier gs)
groups-law app m earlier [] = refl
groups-law app m earlier (g ∷ gs) =
    both (not (g.hides && is_hiding earlier) && (are_guards app m earlier [] g.guards && has Kind.Bool (kind_of (policy_scope app m) g.policy))) (are_groups app m (earlier ++ g ∷ []) gs)
    (group_fault app m earlier g) (groups_fault app m (earlier ++ g ∷ []) gs)
    (ap (λ (b : Bool). not (g.hides && is_hiding earlier) && b) (both (are_guards app m earlier [] g.guards) (has Kind.Bool (kind_of (policy_scope app m) g.policy)) (guards_fault app m earlier [] g.guards)
    (of_kind Kind.Bool (verdict (policy_scope app m) g.policy)) (guards-law app m earlier [] g.guards) (expression-kind (policy_scope app m) Kind.Bool g.policy))
    ∙ if-step (g.hides && is_hiding earlier) (Reason.twice (codes "hides")) (guards_fault app m earlier [] g.guards before of_kind Kind.Bool (verdict (policy_scope app m) g.policy)))
    (groups-law app m (earlier ++ g ∷ []) gs)

placed-none : (ms : List Entity) (place : Place) (o : Option Reason) → is_none o ≡ is_none (fault_at ms place o)
placed-none ms place None = refl
placed-none ms place (Some reason) = refl

-- A part at its place, and then the rest.
at-step : (ms : List Entity) (p q : Bool) (place : Place) (o : Option Reason) (r : Option CheckFault) → p ≡ is_none o → q ≡ is_none r → (p && q) ≡ is_none (fault_at ms place o before r)
at-step ms p q place o r h k = rw (h ∙ placed-none ms place o, k) (none_before (fault_at ms place o) r)

models-law : (app : Application) (earlier ms : List Entity) → are_models app earlier ms ≡ is_none (models_fault app earlier ms)
models-law app earlier [] = refl
models-law app earlier (m ∷ ms) =
    at-step app.models (not (has_model m.name earlier) && (are_fields app.models [] m.fields && are_groups app m [] m.groups)) (are_models app (earlier ++ m ∷ []) ms)
    (Place.Model m.name) (model_fault app earlier m) (models_fault app (earlier ++ m ∷ []) ms)
    (rw (both (are_fields app.models [] m.fields) (are_groups app m [] m.groups) (fields_fault app.models [] m.fields) (groups_fault app m [] m.groups)
    (fields-law app.models [] m.fields) (groups-law app m [] m.groups))
    (if-step (has_model m.name earlier) (Reason.twice m.name) (fields_fault app.models [] m.fields before groups_fault app m [] m.groups)))
    (models-law app (earlier ++ m ∷ []) ms)

params-law : (params : List Field) (xs : List (List ℕ)) → are_params params xs ≡ is_none (path_fault params xs)
params-law params [] = refl
params-law params (x ∷ xs) =
    ap (λ (b : Bool). has_field x params && b) (params-law params xs) ∙ unless-step (has_field x params) _ (path_fault params xs)

pages-law : (app : Application) (n : ℕ) (vs : List Page) → are_pages app vs ≡ is_none (pages_fault app n vs)
pages-law app n [] = refl
pages-law app n (v ∷ vs) =
    let at = page_standing app v in
    at-step app.models (are_fields app.models [] v.params && (are_params v.params (names_in (segments v.path)) && is_body at v.body)) (are_pages app vs)
    (Place.View n) (page_fault app v) (pages_fault app (n + 1) vs)
    (both (are_fields app.models [] v.params) (are_params v.params (names_in (segments v.path)) && is_body at v.body)
    (fields_fault app.models [] v.params) (path_fault v.params (names_in (segments v.path)) before body_fault at v.body) (fields-law app.models [] v.params)
    (both (are_params v.params (names_in (segments v.path))) (is_body at v.body) (path_fault v.params (names_in (segments v.path))) (body_fault at v.body)
    (params-law v.params (names_in (segments v.path))) (body-law at v.body)))
    (pages-law app (n + 1) vs)

viewer-law : (ms : List Entity) (o : Option (List ℕ)) → is_viewer ms o ≡ is_none (viewers_fault ms o)
viewer-law ms None = refl
viewer-law ms (Some m) = model-known ms m

pub well-law : (app : Application) → is_well app ≡ is_none (first_fault app)
well-law app =
    at-step app.models (is_viewer app.models app.viewer) (are_models app [] app.models && are_pages app app.views) Place.Viewer (viewers_fault app.models app.viewer)
    (models_fault app [] app.models before pages_fault app 0 app.views) (viewer-law app.models app.viewer)
    (rw (models-law app [] app.models, pages-law app 0 app.views) (none_before (models_fault app [] app.models) (pages_fault app 0 app.views)))

pub well_where_none : (app : Application) → first_fault app ≡ None → IsTrue (is_well app)
well_where_none app h = let well : is_well app ≡ true = well-law app ∙ ap (λ (o : Option CheckFault). is_none o) h in well
