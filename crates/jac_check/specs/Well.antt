-- Which statements, models, views and applications are well formed: names are known or new, as
-- required, each part is allowed where it is, and each expression has the required kind.
use Rattle.std.specs.Prelude.{ℕ, Bool, true, false, not, ◌&&◌, ◌||◌, List, [], ◌∷◌, ◌++◌, Option, Some, None, is_some, unwrap_or}
use Rattle.jac_value.specs.declared.value.Kind.{Kind}
use Rattle.jac_value.specs.Paths.{segments, names_in}
use Rattle.jac_lang.specs.declared.field_kinds.Field.{Field}
use Rattle.jac_lang.specs.declared.field_kinds.KindName.{KindName}
use Rattle.jac_lang.specs.declared.field_kinds.KindName.TheVariants as names
use Rattle.jac_lang.specs.Lookup.{is_nested_named}
use Rattle.jac_lang.specs.Loops.{may_create}
use Rattle.jac_lang.specs.Syntax.{Entity, Expression, Assigned, Statement, Statements, FieldGroup, Page, Application}
use Rattle.jac_check.specs.declared.names.Meaning.{Meaning}
use Rattle.jac_check.specs.Scope.{Scope, Standing, scope_at, bind, loop_within, meaning_of, within, reference_to, fields_of, field_kind, policy_scope, public_scope, page_standing, is_one_of, has_field, has_model, is_guarded, is_hiding}
use Rattle.jac_check.specs.Kinds.{has, kind_of, is_model, is_field, is_query}

abbrev pub kind_here : Standing → Expression → Option Kind
kind_here st e = kind_of (scope_at st) e

-- Fields of the model, none twice, each with a value of its kind.
abbrev pub are_named : List Field → List (List ℕ) → List Assigned → Bool
are_named fs seen [] = true
are_named fs seen (g ∷ gs) = is_field fs g.field && (not (is_one_of g.field seen) && are_named fs
    (g.field ∷ seen) gs)

abbrev pub are_kinds : Scope → List Field → List Assigned → Bool
are_kinds s fs [] = true
are_kinds s fs (g ∷ gs) = has (field_kind s.models fs g.field) (kind_of s g.value) && are_kinds s fs
    gs

abbrev pub are_cells : Standing → List ℕ → List Assigned → Bool
are_cells st m cells = is_model st.models m && (are_named (fields_of st.models m) [] cells &&
    are_kinds (scope_at st) (fields_of st.models m) cells)

abbrev pub is_assigned : Option Meaning → Option Kind → Bool
is_assigned None k = false
is_assigned (Some m) k = m.by_let && has m.kind k

abbrev mutual
  pub is_statement : Standing → Statement → Bool
  is_statement st (Statement.put e) = is_some (kind_here st e)
  is_statement st (Statement.escape e) = is_some (kind_here st e)
  is_statement st (Statement.bind x e body) = is_some (kind_here st e) && is_body
      (bind st x (unwrap_or (kind_here st e) Kind.Int) true) body
  is_statement st (Statement.assign x e) = is_assigned (meaning_of st.names x) (kind_here st e)
  is_statement st (Statement.branch c a b) = has Kind.Bool (kind_here st c) &&
      (is_body st a && is_body st b)
  is_statement st (Statement.each q body) = is_query (scope_at st) q.binders q.order
      (kind_of (within q.binders (scope_at st)) q.cond) && is_body (loop_within q.binders st) body
  is_statement st (Statement.create x m site cells body) =
      not st.is_get && (may_create (is_nested_named st.models m) st.loops &&
      (are_cells st m cells && is_body (bind st x (reference_to st.models m) false) body))
  is_statement st (Statement.update m e cells) =
      not st.is_get && (are_cells st m cells && has (reference_to st.models m) (kind_here st e))
  is_statement st (Statement.delete m e) =
      not st.is_get && (is_model st.models m && has (reference_to st.models m) (kind_here st e))
  is_statement st Statement.missing = true
  is_statement st (Statement.redirect e) = has Kind.Text (kind_here st e)
  is_statement st (Statement.template t) = false
  is_statement st (Statement.block body) = is_body st body

  pub is_body : Standing → Statements → Bool
  is_body st Statements.none = true
  is_body st (Statements.more s ss) = is_statement st s && is_body st ss

abbrev pub is_kind : List Entity → KindName → Bool
is_kind ms names.Int = true
is_kind ms names.Text = true
is_kind ms names.Bool = true
is_kind ms (names.Ref m) = is_model ms m

-- Fields or parameters. No name is there twice, and each kind is known.
abbrev pub are_fields : List Entity → List Field → List Field → Bool
are_fields ms earlier [] = true
are_fields ms earlier (f ∷ fs) = (not (has_field f.name earlier) && is_kind ms f.kind) && are_fields
    ms (earlier ++ f ∷ []) fs

-- Guards of fields of the model. Each field is guarded once, with a public expression of its kind.
abbrev pub are_guards : Application → Entity → List FieldGroup → List (List ℕ) → List Assigned
    → Bool
are_guards app m earlier seen [] = true
are_guards app m earlier seen (g ∷ gs) =
    (is_field m.fields g.field && (not (is_guarded g.field earlier || is_one_of g.field seen)
    && has (field_kind app.models m.fields g.field) (kind_of (public_scope app m) g.value))) &&
    are_guards app m earlier (g.field ∷ seen) gs

-- At most one group hides the record. Each group has well guards, and its policy is a bool.
abbrev pub are_groups : Application → Entity → List FieldGroup → List FieldGroup → Bool
are_groups app m earlier [] = true
are_groups app m earlier (g ∷ gs) =
    (not (g.hides && is_hiding earlier) && (are_guards app m earlier [] g.guards && has Kind.Bool
    (kind_of (policy_scope app m) g.policy))) && are_groups app m (earlier ++ g ∷ []) gs

abbrev pub are_models : Application → List Entity → List Entity → Bool
are_models app earlier [] = true
are_models app earlier (m ∷ ms) =
    (not (has_model m.name earlier) && (are_fields app.models [] m.fields && are_groups app m []
    m.groups)) && are_models app (earlier ++ m ∷ []) ms

abbrev pub are_params : List Field → List (List ℕ) → Bool
are_params params [] = true
are_params params (x ∷ xs) = has_field x params && are_params params xs

abbrev pub are_pages : Application → List Page → Bool
are_pages app [] = true
are_pages app (v ∷ vs) =
    (are_fields app.models [] v.params && (are_params v.params (names_in (segments v.path)) &&
    is_body (page_standing app v) v.body)) && are_pages app vs

abbrev pub is_viewer : List Entity → Option (List ℕ) → Bool
is_viewer ms None = true
is_viewer ms (Some m) = is_model ms m

-- A well application.
abbrev pub is_well : Application → Bool
is_well app = is_viewer app.models app.viewer && (are_models app [] app.models && are_pages app
    app.views)
