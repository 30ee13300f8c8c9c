-- The scope of an expression and the context of a statement: the names that are bound, and what
-- else may be used.
use Rattle.std.specs.Prelude.{ℕ, Bool, true, false, if◌then◌else◌, List, [], ◌∷◌, ◌++◌, length, Option, Some, None}
use Rattle.jac_value.specs.declared.value.Kind.{Kind}
use Rattle.jac_lang.specs.declared.field_kinds.Field.{Field}
use Rattle.jac_lang.specs.declared.field_kinds.KindName.TheVariants as names
use Rattle.jac_lang.specs.declared.pages.Verb.{Verb}
use Rattle.jac_lang.specs.declared.pages.Verb.TheVariants as verbs
use Rattle.jac_lang.specs.declared.queries.Binder.{Binder}
use Rattle.jac_lang.specs.Lookup.{same_text, model_place, field_place, fields_at, kind_at, kind_named, guards_field}
use Rattle.jac_lang.specs.Loops.{Loops, behind_for}
use Rattle.jac_lang.specs.Syntax.{Expression, FieldGroup, Entity, Page, Application}
use Rattle.jac_check.specs.declared.names.Meaning.{Meaning}

-- A bound name and its meaning: the kind of its value, and whether a `let` binds it.
pub record Named : Type 0 where
  pub name : List ℕ
  pub meaning : Meaning

-- The scope of an expression: the models, the viewers' model, the kind of `this` (none if the word
-- isn't allowed), the bound names, the innermost last, and whether the expression is public.
pub record Scope : Type 0 where
  pub models : List Entity
  pub viewers : Option (List ℕ)
  pub this : Option Kind
  pub names : List Named
  pub is_public : Bool

-- The context of a statement: the models, the viewers' model, the bound names, whether its view
-- answers GET, and the loops around it.
pub record Standing : Type 0 where
  pub models : List Entity
  pub viewers : Option (List ℕ)
  pub names : List Named
  pub is_get : Bool
  pub loops : Loops

abbrev pub scope_name : List ℕ → Kind → Bool → Named
scope_name x k by_let = record { name = x; meaning = record { kind = k; by_let = by_let } }

-- The meaning of the innermost binding of the name, which is the last in the list.
abbrev pub innermost : Option Meaning → List Named → List ℕ → Option Meaning
innermost found [] x = found
innermost found (n ∷ ns) x = innermost (if same_text n.name x then Some n.meaning else found) ns x

abbrev pub meaning_of : List Named → List ℕ → Option Meaning
meaning_of ns x = innermost None ns x

-- A reference to the model of this name.
abbrev pub reference_to : List Entity → List ℕ → Kind
reference_to ms model = kind_named ms (names.Ref model)

-- The fields of the model of this name, or no fields if the model is unknown.
abbrev pub fields_placed : List Entity → Option ℕ → List Field
fields_placed ms None = []
fields_placed ms (Some m) = fields_at ms m

abbrev pub fields_of : List Entity → List ℕ → List Field
fields_of ms m = fields_placed ms (model_place ms m)

abbrev pub kind_placed : List Entity → List Field → Option ℕ → Kind
kind_placed ms fs None = Kind.Int
kind_placed ms fs (Some f) = kind_at ms fs f

-- The kind of the field of this name.
abbrev pub field_kind : List Entity → List Field → List ℕ → Kind
field_kind ms fs f = kind_placed ms fs (field_place fs f)

-- Parameters and binders as bound names.
abbrev pub named_fields : List Entity → List Field → List Named
named_fields ms [] = []
named_fields ms (f ∷ fs) = scope_name f.name (kind_named ms f.kind) false ∷ named_fields ms fs

abbrev pub named_binders : List Entity → List Binder → List Named
named_binders ms [] = []
named_binders ms (b ∷ bs) = scope_name b.name (reference_to ms b.model) false ∷ named_binders ms bs

-- The scope with a query's binders added to the names.
abbrev pub within : List Binder → Scope → Scope
within bs s = record s { names = s.names ++ named_binders s.models bs }

-- A reference to the model of the first binder. If there is no binder, it refers to no model.
abbrev pub first_kind : Scope → List Binder → Kind
first_kind s [] = Kind.Ref (length s.models)
first_kind s (b ∷ bs) = reference_to s.models b.model

-- The scope of a statement's expressions. `this` isn't allowed, and no expression is public.
abbrev pub scope_at : Standing → Scope
scope_at st = record {
  models = st.models;
  viewers = st.viewers;
  this = None;
  names = st.names;
  is_public = false;
}

-- The context of the statements in which a name is bound. Below: that of the statements of a `for`.
abbrev pub bind : Standing → List ℕ → Kind → Bool → Standing
bind st x k by_let = record st { names = st.names ++ scope_name x k by_let ∷ [] }

abbrev pub loop_within : List Binder → Standing → Standing
loop_within bs st = record st {
  names = st.names ++ named_binders st.models bs;
  loops = behind_for st.models bs st.loops;
}

-- The scopes of a model's policies and of its public expressions.
abbrev pub policy_scope : Application → Entity → Scope
policy_scope app m = record {
  models = app.models;
  viewers = app.viewer;
  this = Some (reference_to app.models m.name);
  names = [];
  is_public = false;
}

abbrev pub public_scope : Application → Entity → Scope
public_scope app m = record (policy_scope app m) { is_public = true }

abbrev pub is_get : Verb → Bool
is_get verbs.Get = true
is_get verbs.Post = false

-- The context of a view's statements, in which its parameters are bound.
abbrev pub page_standing : Application → Page → Standing
page_standing app v = record {
  models = app.models;
  viewers = app.viewer;
  names = named_fields app.models v.params;
  is_get = is_get v.method;
  loops = Loops.none;
}

abbrev pub is_one_of : List ℕ → List (List ℕ) → Bool
is_one_of x [] = false
is_one_of x (y ∷ ys) = if same_text y x then true else is_one_of x ys

-- Whether one of the fields has this name. Below: whether one of the models does.
abbrev pub has_field : List ℕ → List Field → Bool
has_field x [] = false
has_field x (f ∷ fs) = if same_text f.name x then true else has_field x fs

abbrev pub has_model : List ℕ → List Entity → Bool
has_model x [] = false
has_model x (m ∷ ms) = if same_text m.name x then true else has_model x ms

-- Whether one of the groups guards the field of this name.
abbrev pub is_guarded : List ℕ → List FieldGroup → Bool
is_guarded x [] = false
is_guarded x (g ∷ gs) = if guards_field x g then true else is_guarded x gs

-- Whether one of the groups hides its records.
abbrev pub is_hiding : List FieldGroup → Bool
is_hiding [] = false
is_hiding (g ∷ gs) = if g.hides then true else is_hiding gs
