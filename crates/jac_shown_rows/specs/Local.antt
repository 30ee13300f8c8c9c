-- Local applications and local states: a policy reads no guarded record but its own, and the rows
-- of a record depend only on its own labels.
use Rattle.std.specs.Prelude.{◌≡◌, ℕ, ◌&&◌, ◌||◌, Bool, true, false, List, [], ◌∷◌, Option, Some, None, ⊤}
use Rattle.std.specs.List.{AllByRecursion}
use Rattle.jac_value.specs.declared.value.Kind.{Kind}
use Rattle.jac_value.specs.declared.value.Kind.TheVariants as kind
use Rattle.jac_value.specs.declared.value.Value.TheVariants as value
use Rattle.jac_value.specs.Ids.{record_of_label}
use Rattle.jac_value.specs.Values.{has_kind}
use Rattle.jac_world.specs.World.{names}
use Rattle.jac_lang.specs.declared.field_kinds.KindName.TheVariants as named
use Rattle.jac_lang.specs.declared.queries.Binder.{Binder}
use Rattle.jac_lang.specs.declared.queries.Order.{Order}
use Rattle.jac_lang.specs.declared.queries.Order.TheVariants as orders
use Rattle.jac_lang.specs.Lookup.{model_place, fields_at, groups_at, field_place, kind_named, kind_at}
use Rattle.jac_lang.specs.Syntax.{Expression, Expressions, FieldGroup, Entity, Application, is_this}
use Rattle.jac_rows.specs.declared.row.Row.{Row}
use Rattle.jac_rows.specs.declared.state.State.{State}
use Rattle.jac_rows.specs.Good.{IsGoodByGuards}
use Rattle.jac_rows.specs.Tables.{rows_of}
use Rattle.jac_plain.specs.Expressions.{model_of_binder}
use Rattle.jac_plain.specs.Models.{is_none, shapes_of}
use Rattle.jac_plain.specs.Policies.{has_group}

-- The model at this place has no group.
abbrev pub is_free : List Entity → ℕ → Bool
is_free models m = is_none (groups_at models m)

abbrev pub is_free_place : List Entity → Option ℕ → Bool
is_free_place models None = true
is_free_place models (Some m) = is_free models m

-- The model of this name has no group. A name without a model counts too, because it has no
-- records.
abbrev pub is_free_model : List Entity → List ℕ → Bool
is_free_model models name = is_free_place models (model_place models name)

-- A value of this kind refers to no record of a model with groups.
abbrev pub is_free_kind : List Entity → Kind → Bool
is_free_kind models (kind.Ref m) = is_free models m
is_free_kind models k = true

abbrev pub is_free_field_at : List Entity → ℕ → Option ℕ → Bool
is_free_field_at models m None = true
is_free_field_at models m (Some f) = is_free_kind models (kind_at models (fields_at models m) f)

abbrev pub is_free_field_in : List Entity → Option ℕ → List ℕ → Bool
is_free_field_in models None field = true
is_free_field_in models (Some m) field = is_free_field_at models m (field_place (fields_at models m)
    field)

-- The field of the model refers to no record of a model with groups.
abbrev pub is_free_field : List Entity → List ℕ → List ℕ → Bool
is_free_field models model field = is_free_field_in models (model_place models model) field

abbrev pub is_free_viewer_of : List Entity → Option (List ℕ) → Bool
is_free_viewer_of models None = false
is_free_viewer_of models (Some name) = is_free_kind models (kind_named models (named.Ref name))

-- The model of the viewers has no group.
abbrev pub is_free_viewer : Application → Bool
is_free_viewer app = is_free_viewer_of app.models app.viewer

-- Each binder ranges over a model without groups.
abbrev pub are_free : List Entity → List Binder → Bool
are_free models [] = true
are_free models (b ∷ bs) = is_free_model models b.model && are_free models bs

-- The order reads no model with groups.
abbrev pub is_free_order : List Entity → List Binder → Order → Bool
is_free_order models bs orders.Key = true
is_free_order models bs (orders.Up name field) = is_free_model models (model_of_binder bs name)
is_free_order models bs (orders.Down name field) = is_free_model models (model_of_binder bs name)

-- The query ranges over models without groups, and its order reads no model with groups.
abbrev pub is_free_query : List Entity → List Binder → Order → Bool
is_free_query models bs o = are_free models bs && is_free_order models bs o

-- By its form the expression refers to no record of a model with groups. For the viewer `v` says
-- so. A name in a policy is a binder's.
abbrev pub refers_free : List Entity → Bool → Expression → Bool
refers_free models v Expression.this = false
refers_free models v Expression.viewer = v
refers_free models v (Expression.get m f e) = is_free_field models m f
refers_free models v (Expression.pick c a b) = refers_free models v a && refers_free models v b
refers_free models v (Expression.first bs c o) = are_free models bs
refers_free models v e = true

abbrev mutual
  -- Each query ranges over models without groups. Each `get` reads `this` or a model without
  -- groups. Each `live` is of `this` or of a record of a model without groups.
  pub is_local : List Entity → Bool → Expression → Bool
  is_local models v (Expression.get m f e) = (is_this e || is_free_model models m) && is_local
      models v e
  is_local models v (Expression.live e) = (is_this e || refers_free models v e) && is_local models v
      e
  is_local models v (Expression.two o a b) = is_local models v a && is_local models v b
  is_local models v (Expression.negated e) = is_local models v e
  is_local models v (Expression.cat es) = are_local models v es
  is_local models v (Expression.str e) = is_local models v e
  is_local models v (Expression.pick c a b) = is_local models v c &&
      (is_local models v a && is_local models v b)
  is_local models v (Expression.count bs c o) = is_free_query models bs o && is_local models v c
  is_local models v (Expression.sum bs c o e) = is_free_query models bs o &&
      (is_local models v c && is_local models v e)
  is_local models v (Expression.any_of bs c o) = is_free_query models bs o && is_local models v c
  is_local models v (Expression.first bs c o) = is_free_query models bs o && is_local models v c
  is_local models v e = true

  pub are_local : List Entity → Bool → Expressions → Bool
  are_local models v Expressions.none = true
  are_local models v (Expressions.more e es) = is_local models v e && are_local models v es

abbrev pub are_local_groups : List Entity → Bool → List FieldGroup → Bool
are_local_groups models v [] = true
are_local_groups models v (g ∷ gs) = is_local models v g.policy && are_local_groups models v gs

abbrev pub are_local_models : List Entity → Bool → List Entity → Bool
are_local_models models v [] = true
are_local_models models v (m ∷ ms) = are_local_groups models v m.groups && are_local_models models v
    ms

-- Each policy is local.
abbrev pub is_local_app : Application → Bool
is_local_app app = are_local_models app.models (is_free_viewer app) app.models

-- The label is one of the record's own labels, of a group that its model has.
pub record IsOwnLabel (app : Application) (id k : ℕ) : Type 0 where
  pub own : record_of_label k ≡ id
  pub group : has_group app k ≡ true

-- Each row's guard names only labels of its own record.
abbrev pub IsLocalState : Application → State → Type 0
IsLocalState app s = (m : ℕ) → AllByRecursion (λ (r : Row). (k : ℕ) → names r.guard k ≡ true
    → IsOwnLabel app r.id k) (rows_of s.tables m)

abbrev pub IsOfViewers : List Entity → Option (List ℕ) → Option ℕ → Type 0
IsOfViewers models None viewer = ⊤
IsOfViewers models (Some name) viewer = has_kind (kind_named models (named.Ref name))
    (value.Ref viewer) ≡ true

-- A local application over a local state that is good except for its next number. The viewer is one
-- of its viewers or nobody.
pub record IsLocalCase (app : Application) (s : State) (viewer : Option ℕ) : Type 0 where
  pub policies : is_local_app app ≡ true
  pub state : IsLocalState app s
  pub next : ℕ
  pub good : IsGoodByGuards (shapes_of app) (record s { number = next })
  pub asker : IsOfViewers app.models app.viewer viewer
