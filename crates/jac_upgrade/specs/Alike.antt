-- When two fields have the same name and kind, and when two groups guard or hide the same.
use Rattle.std.specs.Prelude.{ℕ, Bool, true, false, ◌&&◌, List, [], ◌∷◌}
use mathlib.Core.Bool.{beq}
use Rattle.jac_lang.specs.declared.field_kinds.Field.{Field}
use Rattle.jac_lang.specs.declared.field_kinds.KindName.{KindName}
use Rattle.jac_lang.specs.declared.field_kinds.KindName.TheVariants as kinds
use Rattle.jac_lang.specs.Lookup.{same_text}
use Rattle.jac_lang.specs.Syntax.{Assigned, FieldGroup}

abbrev pub is_int : KindName → Bool
is_int kinds.Int = true
is_int k = false

abbrev pub is_text : KindName → Bool
is_text kinds.Text = true
is_text k = false

abbrev pub is_bool : KindName → Bool
is_bool kinds.Bool = true
is_bool k = false

abbrev pub is_reference_to : List ℕ → KindName → Bool
is_reference_to model (kinds.Ref named) = same_text model named
is_reference_to model k = false

abbrev pub same_kind : KindName → KindName → Bool
same_kind kinds.Int k = is_int k
same_kind kinds.Text k = is_text k
same_kind kinds.Bool k = is_bool k
same_kind (kinds.Ref model) k = is_reference_to model k

abbrev pub same_field : Field → Field → Bool
same_field f g = same_text f.name g.name && same_kind f.kind g.kind

-- The same fields, in the same order.
abbrev pub same_guards : List Assigned → List Assigned → Bool
same_guards [] [] = true
same_guards [] (b ∷ bs) = false
same_guards (a ∷ rest) [] = false
same_guards (a ∷ rest) (b ∷ bs) = same_text a.field b.field && same_guards rest bs

-- The groups guard the same fields, and both hide their records or neither does.
abbrev pub same_group : FieldGroup → FieldGroup → Bool
same_group g h = beq g.hides h.hides && same_guards g.guards h.guards
