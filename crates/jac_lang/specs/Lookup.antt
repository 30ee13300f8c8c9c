-- How models, fields and groups are found by name, and by their position in the text.
use Rattle.std.specs.Prelude.{ℕ, Bool, true, false, ◌==◌, if◌then◌else◌, List, [], ◌∷◌, length, position, slice_get, unwrap_or, Option, Some, None}
use Rattle.std.specs.Cmp.Lexicographic.{pointwise}
use Rattle.jac_value.specs.declared.value.Kind.{Kind}
use Rattle.jac_lang.specs.declared.field_kinds.Field.{Field}
use Rattle.jac_lang.specs.declared.field_kinds.KindName.{KindName}
use Rattle.jac_lang.specs.declared.field_kinds.KindName.TheVariants as kind
use Rattle.jac_lang.specs.Syntax.{Assigned, FieldGroup, Entity}

-- Whether two names are equal.
abbrev pub same_text : List ℕ → List ℕ → Bool
same_text a b = pointwise ◌==◌ a b

-- The place of the model of this name.
abbrev pub model_place : List Entity → List ℕ → Option ℕ
model_place models name = position (λ m. same_text m.name name) models

abbrev pub fields_in : Option Entity → List Field
fields_in None = []
fields_in (Some m) = m.fields

abbrev pub groups_in : Option Entity → List FieldGroup
groups_in None = []
groups_in (Some m) = m.groups

-- The fields of the model at this place, and its groups.
abbrev pub fields_at : List Entity → ℕ → List Field
fields_at models m = fields_in (slice_get models m)

abbrev pub groups_at : List Entity → ℕ → List FieldGroup
groups_at models m = groups_in (slice_get models m)

-- The place of the field of this name.
abbrev pub field_place : List Field → List ℕ → Option ℕ
field_place fields name = position (λ f. same_text f.name name) fields

-- The kind, in which a reference has the place of its model. If no model has the name, the place is
-- the number of models.
abbrev pub kind_named : List Entity → KindName → Kind
kind_named models kind.Int = Kind.Int
kind_named models kind.Text = Kind.Text
kind_named models kind.Bool = Kind.Bool
kind_named models (kind.Ref name) = Kind.Ref (unwrap_or (model_place models name) (length models))

abbrev pub kind_in : List Entity → Option Field → Kind
kind_in models None = Kind.Int
kind_in models (Some f) = kind_named models f.kind

-- The kind of the field at this place.
abbrev pub kind_at : List Entity → List Field → ℕ → Kind
kind_at models fields f = kind_in models (slice_get fields f)

-- Whether one of these is for the field of this name.
abbrev pub names_field : List ℕ → List Assigned → Bool
names_field name [] = false
names_field name (g ∷ gs) = if same_text g.field name then true else names_field name gs

-- Whether the group guards the field of this name.
abbrev pub guards_field : List ℕ → FieldGroup → Bool
guards_field name group = names_field name group.guards

-- The place of the first group that guards the field of this name.
abbrev pub group_place : List FieldGroup → List ℕ → Option ℕ
group_place groups name = position (λ g. guards_field name g) groups

abbrev pub group_for : List FieldGroup → Option Field → Option ℕ
group_for groups None = None
group_for groups (Some f) = group_place groups f.name

-- The place of the group that guards the field at this place.
abbrev pub group_in : List FieldGroup → List Field → ℕ → Option ℕ
group_in groups fields f = group_for groups (slice_get fields f)

-- The place of the first group that hides its records.
abbrev pub hiding_place : List FieldGroup → Option ℕ
hiding_place groups = position (λ g. g.hides) groups

abbrev pub nested_in : Option Entity → Bool
nested_in None = false
nested_in (Some m) = m.nested

-- Whether the model at this place is nested.
abbrev pub is_nested_at : List Entity → ℕ → Bool
is_nested_at models m = nested_in (slice_get models m)

abbrev pub nested_at_place : List Entity → Option ℕ → Bool
nested_at_place models None = false
nested_at_place models (Some m) = is_nested_at models m

-- Whether the model of this name is nested. It is false if no model has the name.
abbrev pub is_nested_named : List Entity → List ℕ → Bool
is_nested_named models name = nested_at_place models (model_place models name)
