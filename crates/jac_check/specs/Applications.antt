-- The first fault of an application, and its place.
use Rattle.std.specs.Prelude.{ℕ, ◌+◌, Bool, true, false, ◌&&◌, ◌||◌, List, [], ◌∷◌, ◌++◌, Option, Some, None, codes}
use Rattle.jac_value.specs.declared.value.Kind.{Kind}
use Rattle.jac_value.specs.Paths.{segments, names_in}
use Rattle.jac_lang.specs.declared.field_kinds.Field.{Field}
use Rattle.jac_lang.specs.declared.field_kinds.KindName.{KindName}
use Rattle.jac_lang.specs.declared.field_kinds.KindName.TheVariants as names
use Rattle.jac_lang.specs.Syntax.{Assigned, FieldGroup, Entity, Page, Application}
use Rattle.jac_check.specs.declared.fault.CheckCause.{CheckCause}
use Rattle.jac_check.specs.declared.fault.CheckCause.TheVariants as causes
use Rattle.jac_check.specs.declared.fault.CheckFault.{CheckFault}
use Rattle.jac_check.specs.declared.fault.Place.TheVariants as places
use Rattle.jac_check.specs.Scope.{policy_scope, public_scope, page_standing, field_kind, has_field, has_model, is_guarded, is_hiding, is_one_of}
use Rattle.jac_check.specs.Verdict.{Reason, ◌before◌, fault_if, fault_unless, of_kind}
use Rattle.jac_check.specs.NameFaults.{unknown_model, unknown_field}
use Rattle.jac_check.specs.Causes.{fault_at}
use Rattle.jac_check.specs.Expressions.{verdict}
use Rattle.jac_check.specs.Statements.{body_fault}

abbrev pub kind_fault : List Entity → KindName → Option Reason
kind_fault ms names.Int = None
kind_fault ms names.Text = None
kind_fault ms names.Bool = None
kind_fault ms (names.Ref m) = unknown_model ms m

-- The fault of a field or a parameter: in its name (used earlier), and then in the model of its
-- kind.
abbrev pub field_fault : List Entity → List Field → Field → Option Reason
field_fault ms earlier f = fault_if (has_field f.name earlier) (Reason.twice f.name) before
    kind_fault ms f.kind

abbrev pub fields_fault : List Entity → List Field → List Field → Option Reason
fields_fault ms earlier [] = None
fields_fault ms earlier (f ∷ fs) = field_fault ms earlier f before fields_fault ms
    (earlier ++ f ∷ []) fs

-- The fault of a guard: in its field, in a second guard of that field, and then in the public
-- expression, which must have the field's kind.
abbrev pub guard_fault : Application → Entity → List FieldGroup → List (List ℕ) → Assigned
    → Option Reason
guard_fault app m earlier seen g =
    unknown_field m.fields g.field before fault_if (is_guarded g.field earlier || is_one_of g.field
    seen) (Reason.twice g.field)
    before of_kind (field_kind app.models m.fields g.field) (verdict (public_scope app m) g.value)

abbrev pub guards_fault : Application → Entity → List FieldGroup → List (List ℕ) → List Assigned
    → Option Reason
guards_fault app m earlier seen [] = None
guards_fault app m earlier seen (g ∷ gs) = guard_fault app m earlier seen g before guards_fault app
    m earlier (g.field ∷ seen) gs

-- The fault of a group: `hides` in an earlier group as well, then the first fault in its guards,
-- and then that in its policy.
abbrev pub group_fault : Application → Entity → List FieldGroup → FieldGroup → Option Reason
group_fault app m earlier g =
    fault_if (g.hides && is_hiding earlier) (Reason.twice (codes "hides")) before guards_fault app m
    earlier [] g.guards before of_kind Kind.Bool (verdict (policy_scope app m) g.policy)

abbrev pub groups_fault : Application → Entity → List FieldGroup → List FieldGroup → Option Reason
groups_fault app m earlier [] = None
groups_fault app m earlier (g ∷ gs) = group_fault app m earlier g before groups_fault app m
    (earlier ++ g ∷ []) gs

-- The fault of a model: in its name (used earlier), in its fields, and then in its groups.
abbrev pub model_fault : Application → List Entity → Entity → Option Reason
model_fault app earlier m =
    fault_if (has_model m.name earlier) (Reason.twice m.name) before fields_fault app.models []
    m.fields before groups_fault app m [] m.groups

abbrev pub models_fault : Application → List Entity → List Entity → Option CheckFault
models_fault app earlier [] = None
models_fault app earlier (m ∷ ms) = fault_at app.models (places.Model m.name)
    (model_fault app earlier m) before models_fault app (earlier ++ m ∷ []) ms

-- The fault of a path: a name in it that isn't one of the parameters.
abbrev pub path_fault : List Field → List (List ℕ) → Option Reason
path_fault params [] = None
path_fault params (x ∷ xs) = fault_unless (has_field x params) (Reason.unknown x) before path_fault
    params xs

-- The fault of a view: in its parameters, in the names of its path, and then in its statements.
abbrev pub page_fault : Application → Page → Option Reason
page_fault app v = fields_fault app.models [] v.params before path_fault v.params
    (names_in (segments v.path)) before body_fault (page_standing app v) v.body

-- The first fault of the views. They are numbered from `n` on.
abbrev pub pages_fault : Application → ℕ → List Page → Option CheckFault
pages_fault app n [] = None
pages_fault app n (v ∷ vs) = fault_at app.models (places.View n) (page_fault app v) before
    pages_fault app (n + 1) vs

abbrev pub viewers_fault : List Entity → Option (List ℕ) → Option Reason
viewers_fault ms None = None
viewers_fault ms (Some m) = unknown_model ms m

-- The first fault of an application: in the viewers' model, in each model, and then in each view.
abbrev pub first_fault : Application → Option CheckFault
first_fault app = fault_at app.models places.Viewer (viewers_fault app.models app.viewer) before
    models_fault app [] app.models before pages_fault app 0 app.views

-- Out of memory is no fault of an application.
abbrev pub is_fault : CheckCause → Bool
is_fault causes.Memory = false
is_fault cause = true
