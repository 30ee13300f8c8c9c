-- What the value of a policy depends on, derived from its text.
use Rattle.std.specs.Prelude.{ℕ, ◌==◌, Bool, true, false, ◌&&◌, if◌then◌else◌, List, [], ◌∷◌, ◌++◌, Option, Some, None, unwrap_or}
use Rattle.std.specs.Option.{option_to_list}
use Rattle.jac_value.specs.declared.value.Kind.{Kind}
use Rattle.jac_value.specs.declared.value.Kind.TheVariants as kind
use Rattle.jac_lang.specs.declared.expressions.Op.TheVariants as op
use Rattle.jac_lang.specs.declared.queries.Binder.{Binder}
use Rattle.jac_lang.specs.Lookup.{model_place, fields_at, field_place, kind_at}
use Rattle.jac_lang.specs.Syntax.{Entity, Expression, Expressions}
use Rattle.jac_index_choice.specs.Fixed.{has_binder, field_asked}
use Rattle.jac_policy_deps.specs.declared.dependency.Dependency.{Dependency}
use Rattle.jac_policy_deps.specs.declared.dependency.Dependency.TheVariants as dependency
use Rattle.jac_policy_deps.specs.declared.dependency.Referent.{Referent}
use Rattle.jac_policy_deps.specs.declared.dependency.Referent.TheVariants as referent

abbrev pub may_refer : Kind → Bool
may_refer (kind.Ref m) = true
may_refer kind.Int = false
may_refer kind.Text = false
may_refer kind.Bool = false

abbrev pub field_if : Bool → ℕ → ℕ → Option Referent
field_if true m f = Some (referent.Field m f)
field_if false m f = None

abbrev pub field_referent : List Entity → ℕ → Option ℕ → Option Referent
field_referent models m None = None
field_referent models m (Some f) = field_if (may_refer (kind_at models (fields_at models m) f)) m f

abbrev pub model_referent : List Entity → Option ℕ → List ℕ → Option Referent
model_referent models None f = None
model_referent models (Some m) f = field_referent models m (field_place (fields_at models m) f)

-- The referent of a field of the policy's own record, if the field is a reference.
abbrev pub own_referent : List Entity → List ℕ → List ℕ → Expression → Option Referent
own_referent models m f Expression.this = model_referent models (model_place models m) f
own_referent models m f e = None

abbrev pub linked_referent : List Entity → Expression → Option Referent
linked_referent models (Expression.get m f e) = own_referent models m f e
linked_referent models e = None

-- The record that an expression names: the policy's own record, the viewer's record, or the record
-- that a field of the own record refers to.
abbrev pub named_referent : List Entity → Expression → Option Referent
named_referent models Expression.this = Some referent.This
named_referent models Expression.viewer = Some referent.Viewer
named_referent models (Expression.get m f e) = own_referent models m f e
named_referent models e = None

abbrev pub is_same_referent : Referent → Referent → Bool
is_same_referent referent.This referent.This = true
is_same_referent (referent.Field m f) (referent.Field n g) = m == n && f == g
is_same_referent referent.Viewer referent.Viewer = true
is_same_referent s t = false

abbrev pub is_referent_in : Referent → Option Referent → Bool
is_referent_in s None = false
is_referent_in s (Some t) = is_same_referent s t

abbrev pub is_referent : List Entity → Referent → Expression → Bool
is_referent models s e = is_referent_in s (named_referent models e)

abbrev pub one_or_other : {A : Type 0} → Option A → Option A → Option A
one_or_other None other = other
one_or_other (Some x) other = Some x

abbrev pub asked_field : Bool → Option (List ℕ) → Option (List ℕ)
asked_field true field = field
asked_field false field = None

-- The first operand of nested `and`s that equates a field of the record of this name with the
-- referent gives this field.
abbrev pub found_field : List Entity → Referent → List ℕ → List ℕ → Expression → Option (List ℕ)
found_field models s m x (Expression.two op.And a b) =
    one_or_other (found_field models s m x a) (found_field models s m x b)
found_field models s m x (Expression.two op.Eq a b) =
    asked_field (is_referent models s b) (field_asked m x a)
found_field models s m x e = None

abbrev pub asked_referent : Option (List ℕ) → Option Referent → Option Referent
asked_referent None s = None
asked_referent (Some field) s = s

-- The first operand of nested `and`s that equates a field of the record of this name with a field
-- of the policy's own record gives the latter.
abbrev pub found_link : List Entity → List ℕ → List ℕ → Expression → Option Referent
found_link models m x (Expression.two op.And a b) =
    one_or_other (found_link models m x a) (found_link models m x b)
found_link models m x (Expression.two op.Eq a b) =
    asked_referent (field_asked m x a) (linked_referent models b)
found_link models m x e = None

abbrev pub dependency_found_at : Referent → ℕ → Option ℕ → Option Dependency
dependency_found_at s m None = None
dependency_found_at s m (Some f) = Some (dependency.Found s m f)

abbrev pub dependency_found_in : List Entity → Referent → ℕ → Option (List ℕ) → Option Dependency
dependency_found_in models s m None = None
dependency_found_in models s m (Some name) = dependency_found_at s m
    (field_place (fields_at models m) name)

-- The records of a binder that the referent finds, if the condition equates a field of them with
-- it.
abbrev pub dependency_found_by : List Entity → Referent → ℕ → Binder → Expression → Option
    Dependency
dependency_found_by models s m b c = dependency_found_in models s m
    (found_field models s b.model b.name c)

abbrev pub dependency_linked_by : List Entity → Option Referent → ℕ → Binder → Expression → Option
    Dependency
dependency_linked_by models None m b c = None
dependency_linked_by models (Some s) m b c = dependency_found_by models s m b c

-- The records that the policy's own record finds, or else the record that a field of it refers to,
-- or else the viewer. None if a later binder has the same name.
abbrev pub found_dependency : List Entity → ℕ → Binder → List Binder → Expression → Option
    Dependency
found_dependency models m b later c =
    if has_binder later b.name then None
    else one_or_other (dependency_found_by models referent.This m b c)
    (one_or_other (dependency_linked_by models (found_link models b.model b.name c) m b c)
    (dependency_found_by models referent.Viewer m b c))

abbrev pub table_dependency : Option ℕ → Option Dependency
table_dependency None = None
table_dependency (Some m) = Some (dependency.Table m)

-- The records that a binder of the model at a place goes through: those that are found, or else
-- all.
abbrev pub records_dependency : List Entity → Option ℕ → Binder → List Binder → Expression → Option
    Dependency
records_dependency models None b later c = None
records_dependency models (Some m) b later c =
    Some (unwrap_or (found_dependency models m b later c) (dependency.Table m))

abbrev pub binder_dependency : List Entity → Binder → List Binder → Expression → Option Dependency
binder_dependency models b later c = records_dependency models (model_place models b.model) b later
    c

-- The records that all binders of a query go through.
abbrev pub binder_dependencies : List Entity → List Binder → Expression → List Dependency
binder_dependencies models [] c = []
binder_dependencies models (b ∷ later) c =
    option_to_list (binder_dependency models b later c) ++ binder_dependencies models later c

abbrev pub one_dependency : Option Referent → Option Dependency
one_dependency None = None
one_dependency (Some s) = Some (dependency.One s)

-- What reading a field depends on. The policy's own record and the records of binders are covered
-- elsewhere, and a literal names no record.
abbrev pub read_dependency : List Entity → List ℕ → Expression → Option Dependency
read_dependency models m Expression.this = None
read_dependency models m (Expression.name x) = None
read_dependency models m (Expression.int i) = None
read_dependency models m (Expression.text t) = None
read_dependency models m (Expression.bool b) = None
read_dependency models m (Expression.none_of n) = None
read_dependency models m e =
    one_or_other (one_dependency (named_referent models e)) (table_dependency
    (model_place models m))

-- What the question whether a record is live depends on.
abbrev pub live_dependency : List Entity → Expression → Option Dependency
live_dependency models Expression.this = None
live_dependency models (Expression.name x) = None
live_dependency models (Expression.int i) = None
live_dependency models (Expression.text t) = None
live_dependency models (Expression.bool b) = None
live_dependency models (Expression.none_of n) = None
live_dependency models e = Some (unwrap_or (one_dependency (named_referent models e))
    dependency.Any)

abbrev mutual
  -- What the value of an expression depends on.
  pub dependencies : List Entity → Expression → List Dependency
  dependencies models (Expression.get m f e) = option_to_list (read_dependency models m e) ++
      dependencies models e
  dependencies models (Expression.live e) = option_to_list (live_dependency models e) ++
      dependencies models e
  dependencies models (Expression.two o a b) = dependencies models a ++ dependencies models b
  dependencies models (Expression.negated e) = dependencies models e
  dependencies models (Expression.cat es) = dependencies_each models es
  dependencies models (Expression.str e) = dependencies models e
  dependencies models (Expression.pick c a b) = dependencies models c ++
      (dependencies models a ++ dependencies models b)
  dependencies models (Expression.count bs c o) = binder_dependencies models bs c ++ dependencies
      models c
  dependencies models (Expression.sum bs c o e) =
      binder_dependencies models bs c ++ (dependencies models c ++ dependencies models e)
  dependencies models (Expression.any_of bs c o) = binder_dependencies models bs c ++ dependencies
      models c
  dependencies models (Expression.first bs c o) = binder_dependencies models bs c ++ dependencies
      models c
  dependencies models e = []

  pub dependencies_each : List Entity → Expressions → List Dependency
  dependencies_each models Expressions.none = []
  dependencies_each models (Expressions.more e es) = dependencies models e ++ dependencies_each
      models es
