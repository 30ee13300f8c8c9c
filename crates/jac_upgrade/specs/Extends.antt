-- The first part of an application that a second one lacks or has changed.
use Rattle.std.specs.Prelude.{ℕ, ◌+◌, ◌&&◌, if◌then◌else◌, List, [], ◌∷◌, Option, Some, None, Result, Ok, Err}
use mathlib.Core.Bool.{beq}
use Rattle.jac_lang.specs.declared.field_kinds.Field.{Field}
use Rattle.jac_lang.specs.Lookup.{same_text}
use Rattle.jac_lang.specs.Syntax.{Entity, FieldGroup}
use Rattle.jac_upgrade.specs.Alike.{same_field, same_group}
use Rattle.jac_upgrade.specs.declared.fault.UpgradeFault.{UpgradeFault}
use Rattle.jac_upgrade.specs.declared.fault.UpgradeFault.TheVariants as faults

abbrev pub upgrade_fault : {A : Type 0} → Result A UpgradeFault → Option UpgradeFault
upgrade_fault (Ok a) = None
upgrade_fault (Err fault) = Some fault

-- The first fault, or else the second.
abbrev pub or_else : Option UpgradeFault → Option UpgradeFault → Option UpgradeFault
or_else None other = other
or_else (Some fault) other = Some fault

-- The first field that differs from the field at its place in the other application, or has none
-- there.
abbrev pub fields_lack : ℕ → ℕ → List Field → List Field → Option UpgradeFault
fields_lack m n [] news = None
fields_lack m n (f ∷ fs) [] = Some (faults.Field m n)
fields_lack m n (f ∷ fs) (g ∷ gs) = if same_field f g then fields_lack m (n + 1) fs gs
    else Some (faults.Field m n)

-- The first group that differs from the group at its place in the other application, or has none
-- there.
abbrev pub groups_lack : ℕ → ℕ → List FieldGroup → List FieldGroup → Option UpgradeFault
groups_lack m n [] news = None
groups_lack m n (f ∷ fs) [] = Some (faults.Group m n)
groups_lack m n (f ∷ fs) (g ∷ gs) = if same_group f g then groups_lack m (n + 1) fs gs
    else Some (faults.Group m n)

-- The first difference of a model: its name or whether it is nested, then its fields, then its
-- groups.
abbrev pub model_lack : ℕ → Entity → Entity → Option UpgradeFault
model_lack m e f =
    if same_text e.name f.name && beq e.nested f.nested
    then or_else (fields_lack m 0 e.fields f.fields) (groups_lack m 0 e.groups f.groups)
    else Some (faults.Model m)

-- The first fault of the models, in their order.
abbrev pub models_lack : ℕ → List Entity → List Entity → Option UpgradeFault
models_lack m [] news = None
models_lack m (e ∷ es) [] = Some (faults.Model m)
models_lack m (e ∷ es) (f ∷ fs) = or_else (model_lack m e f) (models_lack (m + 1) es fs)
