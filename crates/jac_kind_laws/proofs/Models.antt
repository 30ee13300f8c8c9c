-- Policies and public expressions of a well-formed application.
use Rattle.std.proofs.Common.{◌≡◌, refl, subst, ℕ, zero, suc, ◌==◌, Bool, true, false, not, ◌&&◌, ◌||◌, List, [], ◌∷◌, ◌++◌, slice_get, Option, Some, None, if◌then◌else◌, IsTrue}
use Rattle.std.specs.List.{AllByRecursion}
use Rattle.std.proofs.lemmas.Bool.{and_parts}
use Rattle.std.proofs.lemmas.Bool.Decides.{Decides-eqb}
use Rattle.jac_value.specs.declared.value.Kind.{Kind}
use Rattle.jac_value.specs.declared.value.Value.{Value}
use Rattle.jac_value.specs.declared.value.Value.TheVariants as value
use Rattle.jac_value.specs.Ids.{is_id_of, model_of_id, record_of_label, group_of_label}
use Rattle.jac_lang.specs.declared.field_kinds.Field.{Field}
use Rattle.jac_lang.specs.Lookup.{same_text, fields_in, groups_in, group_for, group_place, kind_in, kind_named}
use Rattle.jac_lang.specs.Syntax.{Entity, Expression, Assigned, FieldGroup, Application}
use Rattle.jac_rows.specs.declared.plain.PlainRow.{PlainRow}
use Rattle.jac_rows.specs.declared.plain.PlainState.{PlainState}
use Rattle.jac_rows.specs.Good.{IsGoodPlain, have_kinds}
use Rattle.jac_rows.specs.Tables.{rows_of}
use Rattle.jac_plain.specs.World.{record_with}
use Rattle.jac_plain.specs.Expressions.{stands}
use Rattle.jac_plain.specs.Models.{shapes_of}
use Rattle.jac_plain.specs.Policies.{has_record, labelled_group, policy_world}
use Rattle.jac_plain.specs.Records.{alone, plain_row, expression_for, guards_in, name_in, public_in}
use Rattle.jac_check.specs.Scope.{reference_to, field_kind, policy_scope, public_scope, is_one_of, is_guarded, is_hiding, has_model}
use Rattle.jac_check.specs.Kinds.{has, kind_of, is_field}
use Rattle.jac_check.specs.Well.{are_fields, are_guards, are_groups, are_models, are_pages, is_well}
use Rattle.jac_kind_laws.specs.Fits.{Has, IsViewer}
use Rattle.jac_kind_laws.specs.Operands.{IsOfKind}
use Rattle.jac_kind_laws.specs.Publics.{world_over, PublicFits, PublicsFit}
use Rattle.jac_kind_laws.proofs.Tests.{has_is}
use Rattle.jac_kind_laws.proofs.Tables.{FitsModel, AreRows, AreFit, kinds_at, good_fit}
use Rattle.jac_kind_laws.proofs.Tuples.{Suits}
use Rattle.jac_kind_laws.proofs.SortKeys.{same_name}
use Rattle.jac_kind_laws.proofs.Distinct.{field_found, model_found}
use Rattle.jac_kind_laws.proofs.Means.{means}

-- A public expression that is found in a list of guards has its field's kind.
guard_step : (app : Application) (m : Entity) (a : Assigned) (name : List ℕ) (same : Bool) (later : Option Expression) (e : Expression) → same_text a.field name ≡ same
    → has (field_kind app.models m.fields a.field) (kind_of (public_scope app m) a.value) ≡ true
    → (later ≡ Some e → has (field_kind app.models m.fields name) (kind_of (public_scope app m) e) ≡ true)
    → (if same then Some a.value else later) ≡ Some e → has (field_kind app.models m.fields name) (kind_of (public_scope app m) e) ≡ true
guard_step app m a name true later e s here there h =
    let found : a.value ≡ e = cc in
    subst (λ (x : List ℕ). has (field_kind app.models m.fields x) (kind_of (public_scope app m) e) ≡ true) ((same_name a.field name).0 s)
    (subst (λ (x : Expression). has (field_kind app.models m.fields a.field) (kind_of (public_scope app m) x) ≡ true) found here)
guard_step app m a name false later e s here there h = there h

guard_well : (app : Application) (m : Entity) (earlier : List FieldGroup) (seen : List (List ℕ)) (gs : List Assigned) (name : List ℕ) (e : Expression)
    → are_guards app m earlier seen gs ≡ true → expression_for name gs ≡ Some e → has (field_kind app.models m.fields name) (kind_of (public_scope app m) e) ≡ true
guard_well app m earlier seen [] name e h found = cc
guard_well app m earlier seen (a ∷ gs) name e h found =
    let p = and_parts (is_field m.fields a.field && (not (is_guarded a.field earlier || is_one_of a.field seen) && has (field_kind app.models m.fields a.field) (kind_of (public_scope app m) a.value)))
    (are_guards app m earlier (a.field ∷ seen) gs) h in
    let here = (and_parts (not (is_guarded a.field earlier || is_one_of a.field seen)) _ (and_parts (is_field m.fields a.field) _ p.0).1).1 in
    guard_step app m a name (same_text a.field name) (expression_for name gs) e refl here (guard_well app m earlier (a.field ∷ seen) gs name e p.1) found

group_parts : (app : Application) (m : Entity) (earlier : List FieldGroup) (g : FieldGroup) (gs : List FieldGroup) → are_groups app m earlier (g ∷ gs) ≡ true
    → (are_guards app m earlier [] g.guards ≡ true) × (has Kind.Bool (kind_of (policy_scope app m) g.policy) ≡ true) × (are_groups app m (earlier ++ g ∷ []) gs ≡ true)
group_parts app m earlier g gs h =
    let p = and_parts (not (g.hides && is_hiding earlier) && (are_guards app m earlier [] g.guards && has Kind.Bool (kind_of (policy_scope app m) g.policy)))
    (are_groups app m (earlier ++ g ∷ []) gs) h in
    let q = and_parts (are_guards app m earlier [] g.guards) (has Kind.Bool (kind_of (policy_scope app m) g.policy)) (and_parts (not (g.hides && is_hiding earlier)) _ p.0).1 in
    (q.0, q.1, p.1)

public_well : (app : Application) (m : Entity) (earlier gs : List FieldGroup) (i : ℕ) (name : List ℕ) (e : Expression) → are_groups app m earlier gs ≡ true
    → expression_for name (guards_in (slice_get gs i)) ≡ Some e → has (field_kind app.models m.fields name) (kind_of (public_scope app m) e) ≡ true
public_well app m earlier [] i name e h found = cc
public_well app m earlier (g ∷ gs) zero name e h found = guard_well app m earlier [] g.guards name e (group_parts app m earlier g gs h).0 found
public_well app m earlier (g ∷ gs) (suc i) name e h found = public_well app m (earlier ++ g ∷ []) gs i name e (group_parts app m earlier g gs h).2 found

policy_well : (app : Application) (m : Entity) (earlier gs : List FieldGroup) (i : ℕ) (g : FieldGroup) → are_groups app m earlier gs ≡ true → slice_get gs i ≡ Some g
    → has Kind.Bool (kind_of (policy_scope app m) g.policy) ≡ true
policy_well app m earlier [] i g h e = cc
policy_well app m earlier (d ∷ gs) zero g h e =
    let same : d ≡ g = cc in
    subst (λ (x : FieldGroup). has Kind.Bool (kind_of (policy_scope app m) x.policy) ≡ true) same (group_parts app m earlier d gs h).1
policy_well app m earlier (d ∷ gs) (suc i) g h e = policy_well app m (earlier ++ d ∷ []) gs i g (group_parts app m earlier d gs h).2 e

-- A model of a well-formed application.
model_well : (app : Application) (earlier ms : List Entity) (i : ℕ) (m : Entity) → are_models app earlier ms ≡ true → slice_get ms i ≡ Some m
    → (are_fields app.models [] m.fields ≡ true) × (are_groups app m [] m.groups ≡ true)
model_well app earlier [] i m h e = cc
model_well app earlier (d ∷ ms) zero m h e =
    let p = and_parts (not (has_model d.name earlier) && (are_fields app.models [] d.fields && are_groups app d [] d.groups)) (are_models app (earlier ++ d ∷ []) ms) h in
    let q = and_parts (are_fields app.models [] d.fields) (are_groups app d [] d.groups) (and_parts (not (has_model d.name earlier)) _ p.0).1 in
    let same : d ≡ m = cc in
    subst (λ (x : Entity). (are_fields app.models [] x.fields ≡ true) × (are_groups app x [] x.groups ≡ true)) same q
model_well app earlier (d ∷ ms) (suc i) m h e = model_well app (earlier ++ d ∷ []) ms i m (and_parts _ (are_models app (earlier ++ d ∷ []) ms) h).1 e

-- `this` refers to a record of the model.
this_refers : (app : Application) (i id : ℕ) (m : Entity) → are_models app [] app.models ≡ true → slice_get app.models i ≡ Some m → is_id_of id i ≡ true
    → Has (reference_to app.models m.name) (value.Ref (Some id))
this_refers app i id m h e g = rw (model_found app app.models i m h e) g

alone_fit : (P : ℕ → PlainRow → Type 0) (m : ℕ) (row : PlainRow) → P m row → (i : ℕ) → AllByRecursion (P i) (rows_of (alone m row) i)
alone_fit P zero row h zero = (h, tt)
alone_fit P zero row h (suc i) = tt
alone_fit P (suc m) row h zero = tt
alone_fit P (suc m) row h (suc i) = alone_fit (λ n. P (suc n)) m row h i

-- The scope of a public expression.
suits_public : (app : Application) (i id : ℕ) (cells : List Value) (m : Entity) → are_models app [] app.models ≡ true → slice_get app.models i ≡ Some m → is_id_of id i ≡ true
    → have_kinds (kinds_at app.models i) cells ≡ true → Suits (public_scope app m) (world_over app.models i id cells) []
suits_public app i id cells m h e g fit = record {
  bindings = tt;
  this = this_refers app i id m h e g;
  viewer = nobody app.viewer;
  tables = alone_fit (FitsModel app.models) i (plain_row id cells) (record { of_model = g; cells = fit });
}
  where
    nobody : (viewers : Option (List ℕ)) → IsViewer app.models viewers None
    nobody None = tt
    nobody (Some name) = refl

public_fits : (app : Application) (i id : ℕ) (cells : List Value) (m : Entity) → Suits (public_scope app m) (world_over app.models i id cells) [] → (k : Kind) (o : Option Expression)
    → ((e : Expression) → o ≡ Some e → has k (kind_of (public_scope app m) e) ≡ true) → PublicFits (world_over app.models i id cells) k o
public_fits app i id cells m g k None well = tt
public_fits app i id cells m g k (Some e) well =
    means (world_over app.models i id cells) e (public_scope app m) [] k g (has_is (kind_of (public_scope app m) e) k (well e refl))

group_fits : (app : Application) (i id : ℕ) (cells : List Value) (m : Entity) (k : Kind) (name : List ℕ) (place : Option ℕ) → Suits (public_scope app m) (world_over app.models i id cells) []
    → are_groups app m [] m.groups ≡ true → field_kind app.models m.fields name ≡ k → PublicFits (world_over app.models i id cells) k (public_in m.groups place name)
group_fits app i id cells m k name None g h same = tt
group_fits app i id cells m k name (Some p) g h same =
    public_fits app i id cells m g k (expression_for name (guards_in (slice_get m.groups p)))
    (λ e found. subst (λ (j : Kind). has j (kind_of (public_scope app m) e) ≡ true) same (public_well app m [] m.groups p name e h found))

field_fits : (app : Application) (i id : ℕ) (cells : List Value) (m : Entity) (f : ℕ) (o : Option Field) → Suits (public_scope app m) (world_over app.models i id cells) []
    → are_fields app.models [] m.fields ≡ true → are_groups app m [] m.groups ≡ true → slice_get m.fields f ≡ o
    → PublicFits (world_over app.models i id cells) (kind_in app.models o) (public_in m.groups (group_for m.groups o) (name_in o))
field_fits app i id cells m f None g known h e = tt
field_fits app i id cells m f (Some d) g known h e =
    let same : field_kind app.models m.fields d.name ≡ kind_named app.models d.kind = rw (field_found app.models m.fields f d known e, e) refl in
    group_fits app i id cells m (kind_named app.models d.kind) d.name (group_place m.groups d.name) g h same

model_fits : (app : Application) (i id : ℕ) (cells : List Value) (o : Option Entity) → are_models app [] app.models ≡ true → is_id_of id i ≡ true
    → have_kinds (kinds_at app.models i) cells ≡ true → slice_get app.models i ≡ o → (f : ℕ)
    → PublicFits (world_over app.models i id cells) (kind_in app.models (slice_get (fields_in o) f))
    (public_in (groups_in o) (group_for (groups_in o) (slice_get (fields_in o) f)) (name_in (slice_get (fields_in o) f)))
model_fits app i id cells None h g fit e f = tt
model_fits app i id cells (Some m) h g fit e f =
    let m_well = model_well app [] app.models i m h e in
    field_fits app i id cells m f (slice_get m.fields f) (suits_public app i id cells m h e g fit) m_well.0 m_well.1 refl

-- The public expressions of a well-formed application.
pub models_fit : (app : Application) → are_models app [] app.models ≡ true → (i id : ℕ) (cells : List Value) → is_id_of id i ≡ true
    → have_kinds (kinds_at app.models i) cells ≡ true → PublicsFit app.models i id cells
models_fit app h i id cells g fit f = model_fits app i id cells (slice_get app.models i) h g fit refl f

pub models_well : (app : Application) → IsTrue (is_well app) → are_models app [] app.models ≡ true
models_well app h = (and_parts (are_models app [] app.models) (are_pages app app.views) (and_parts _ (are_models app [] app.models && are_pages app app.views) h).1).0

pub publics_fit : (app : Application) (m id : ℕ) (cells : List Value) → IsTrue (is_well app) → is_id_of id m ≡ true
    → have_kinds (kinds_at app.models m) cells ≡ true → PublicsFit app.models m id cells
publics_fit app m id cells h = models_fit app (models_well app h) m id cells

-- Policies.
id_step : (ms : List Entity) (m id : ℕ) (r : PlainRow) (same : Bool) (later : Option PlainRow) → (r.id == id) ≡ same → FitsModel ms m r → (stands later ≡ true → is_id_of id m ≡ true)
    → stands (if same then Some r else later) ≡ true → is_id_of id m ≡ true
id_step ms m id r true later e here there h = subst (λ (n : ℕ). is_id_of n m ≡ true) ((Decides-eqb r.id id).0 e) here.of_model
id_step ms m id r false later e here there h = there h

id_standing : (ms : List Entity) (m id : ℕ) (rows : List PlainRow) → AreRows ms m rows → stands (record_with id rows) ≡ true → is_id_of id m ≡ true
id_standing ms m id [] a h = cc
id_standing ms m id (r ∷ rows) a h = id_step ms m id r (r.id == id) (record_with id rows) refl a.0 (id_standing ms m id rows a.1) h

policy_in : (app : Application) (t : PlainState) (viewer : Option ℕ) (id place : ℕ) (g : FieldGroup) (o : Option Entity) → are_models app [] app.models ≡ true → AreFit app.models t.tables
    → IsViewer app.models app.viewer viewer → is_id_of id (model_of_id id) ≡ true → slice_get app.models (model_of_id id) ≡ o → slice_get (groups_in o) place ≡ Some g
    → IsOfKind (policy_world app t viewer id) [] Kind.Bool g.policy
policy_in app t viewer id place g None h fit seen is e found = cc
policy_in app t viewer id place g (Some m) h fit seen is e found =
    let bool = policy_well app m [] m.groups place g (model_well app [] app.models (model_of_id id) m h e).1 found in
    means (policy_world app t viewer id) g.policy (policy_scope app m) [] Kind.Bool
    (record { bindings = tt; this = this_refers app (model_of_id id) id m h e is; viewer = seen; tables = fit }) (has_is (kind_of (policy_scope app m) g.policy) Kind.Bool bool)

pub policies_fit : (app : Application) (t : PlainState) (viewer : Option ℕ) (k : ℕ) (g : FieldGroup) → IsTrue (is_well app) → IsGoodPlain (shapes_of app) t
    → IsViewer app.models app.viewer viewer → has_record t k ≡ true → labelled_group app k ≡ Some g → IsOfKind (policy_world app t viewer (record_of_label k)) [] Kind.Bool g.policy
policies_fit app t viewer k g h good seen stands found =
    let id = record_of_label k in
    let fit = good_fit app.models t.tables (record { next = t.number; good = good }) in
    let is = id_standing app.models (model_of_id id) id (rows_of t.tables (model_of_id id)) (fit (model_of_id id)) stands in
    policy_in app t viewer id (group_of_label k) g (slice_get app.models (model_of_id id)) (models_well app h) fit seen is refl found
