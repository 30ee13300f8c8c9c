-- Each group of the program has the same place as its counterpart in the definitions.
use Rattle.std.proofs.Common.{◌≡◌, ◌∙◌, sym, refl, ap, arith, ℕ, ◌<◌, ◌≤◌, ◌&&◌, Bool, true, false, if◌then◌else◌, zero, suc, List, [], ◌∷◌, length, Option, Some, None, IfSome, option_map, slice_get}
use Rattle.std.proofs.lemmas.List.Quantifiers.{position-Some}
use Rattle.std.proofs.lemmas.Option.{slice_get_past}
use Rattle.jac_lang.specs.declared.field_kinds.Field.{Field}
use Rattle.jac_lang.specs.declared.schema.Group.{Group}
use Rattle.jac_lang.specs.Mirror.{field_group_of, groups_of}
use Rattle.jac_lang.specs.Lookup.{fields_at, groups_at, group_for, group_in, guards_field, hiding_place}
use Rattle.jac_lang.specs.Syntax.{Entity, FieldGroup}
use Rattle.jac_lang.proofs.Places.{length-seen}
use Rattle.jac_plain.specs.Records.{is_hidden, is_hidden_by, public_cell}
use Rattle.jac_value.specs.declared.value.Value.{Value}
use Rattle.jac_write.specs.Drafts.{stored_at}

pub group_there : (gs : List Group) (i : ℕ) (o : Option Group) → slice_get gs i ≡ o → slice_get (groups_of gs) i ≡ option_map field_group_of o
group_there [] i o e = ap (option_map field_group_of) e
group_there (g ∷ gs) zero o e = ap (option_map field_group_of) e
group_there (g ∷ gs) (suc i) o e = group_there gs i o e

group_within : (groups : List FieldGroup) (field : Option Field) (g : ℕ) → group_for groups field ≡ Some g → g < length groups
group_within groups None g e = cc
group_within [] (Some f) g e = cc
group_within (x ∷ groups) (Some f) g e = (position-Some (λ y. guards_field f.name y) (x ∷ groups) g x e).0

few_places : (gs : List Group) (models : List Entity) (m g : ℕ) → groups_of gs ≡ groups_at models m → length gs ≤ 8 → g < length (groups_at models m) → g < 8
few_places gs models m g same few below =
    let long : length (groups_at models m) ≡ length gs = ap length (sym same) ∙ length-seen field_group_of groups_of refl (λ _ _. refl) gs in
    omega (arith, below, long, few)

pub group_few : (gs : List Group) (models : List Entity) (m f : ℕ) (found : Option ℕ) → groups_of gs ≡ groups_at models m → length gs ≤ 8
    → found ≡ group_in (groups_at models m) (fields_at models m) f → IfSome found (λ g. g < 8)
group_few gs models m f None same few is = tt
group_few gs models m f (Some g) same few is =
    few_places gs models m g same few (group_within (groups_at models m) (slice_get (fields_at models m) f) g (sym is))

hiding_within : (groups : List FieldGroup) (g : ℕ) → hiding_place groups ≡ Some g → g < length groups
hiding_within [] g e = cc
hiding_within (x ∷ groups) g e = (position-Some (λ y. y.hides) (x ∷ groups) g x e).0

pub hiding_few : (gs : List Group) (models : List Entity) (m : ℕ) (found : Option ℕ) → groups_of gs ≡ groups_at models m → length gs ≤ 8
    → found ≡ hiding_place (groups_at models m) → IfSome found (λ g. g < 8)
hiding_few gs models m None same few is = tt
hiding_few gs models m (Some g) same few is = few_places gs models m g same few (hiding_within (groups_at models m) g (sym is))

never : (b : Bool) → false ≡ (b && false)
never true = refl
never false = refl

-- No group guards a field that doesn't exist.
past_fields : (models : List Entity) (w : ℕ → Bool) (m id f : ℕ) (named : Bool) → length (fields_at models m) ≤ f → false ≡ (named && is_hidden models w m id f)
past_fields models w m id f named h =
    never named ∙ ap (λ o. named && is_hidden_by w id (group_for (groups_at models m) o)) (sym (slice_get_past (fields_at models m) f h))

pub past_stored : (models : List Entity) (w : ℕ → Bool) (m id : ℕ) (named : ℕ → Bool) (draft : List Value) (f : ℕ) (cell : Value) → length (fields_at models m) ≤ f
    → cell ≡ stored_at models w m id named draft f cell
past_stored models w m id named draft f cell h = ap (λ (b : Bool). if b then public_cell models m id draft f cell else cell) (past_fields models w m id f (named f) h)
