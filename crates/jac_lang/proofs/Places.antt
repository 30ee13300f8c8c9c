-- The place of an item in a list of the code is its place in the list of plain data.
use Rattle.std.proofs.Common.{◌≡◌, ℕ, ◌+◌, Bool, not, nat_lt, cond, zero, suc, List, [], ◌∷◌, length, refl, sym, ◌∙◌, ap, Some, None}
use Rattle.std.specs.Prelude.{position, slice_get}
use Rattle.std.specs.List.{prefix_len, position_or_len}
use Rattle.jac_lang.specs.declared.schema.Group.{Group}
use Rattle.jac_lang.specs.declared.schema.ModelDef.{ModelDef}
use Rattle.jac_lang.specs.Lookup.{same_text, model_place, fields_at, groups_at, names_field, guards_field, group_place, hiding_place, is_nested_at, is_nested_named, nested_at_place}
use Rattle.jac_lang.specs.Mirror.{entity_of, entities_of, field_group_of, groups_of, assigned_of}

module _ {A B : Type 0} (g : A → B) (f : List A → List B) (none : f [] ≡ []) (more : (x : A) (xs : List A) → f (x ∷ xs) ≡ g x ∷ f xs) where
  pub length-seen : (xs : List A) → length (f xs) ≡ length xs
  length-seen [] = ap length none
  length-seen (x ∷ xs) = ap length (more x xs) ∙ ap suc (length-seen xs)

  prefix-seen : (p : B → Bool) (xs : List A) → prefix_len (λ x. p (g x)) xs ≡ prefix_len p (f xs)
  prefix-seen p [] = sym (ap (prefix_len p) none)
  prefix-seen p (x ∷ xs) = ap (λ (n : ℕ). cond (p (g x)) (1 + n) 0) (prefix-seen p xs) ∙ sym (ap (prefix_len p) (more x xs))

  pub position-seen : (p : B → Bool) (xs : List A) → position (λ x. p (g x)) xs ≡ position p (f xs)
  position-seen p xs =
      ap (λ (n : ℕ). cond (nat_lt n (length xs)) (Some n) None) (prefix-seen (λ y. not (p y)) xs)
      ∙ ap (λ (n : ℕ). cond (nat_lt (position_or_len p (f xs)) n) (Some (position_or_len p (f xs))) None) (sym (length-seen xs))

pub model-place : (ms : List ModelDef) (name : List ℕ) → position (λ m. same_text m.name name) ms ≡ model_place (entities_of ms) name
model-place ms name = position-seen entity_of entities_of refl (λ _ _. refl) (λ m. same_text m.name name) ms

pub group-place : (gs : List Group) (name : List ℕ) → position (λ g. names_field name (assigned_of g.guards)) gs ≡ group_place (groups_of gs) name
group-place gs name = position-seen field_group_of groups_of refl (λ _ _. refl) (λ g. guards_field name g) gs

pub length-entities : (ms : List ModelDef) → length (entities_of ms) ≡ length ms
length-entities ms = length-seen entity_of entities_of refl (λ _ _. refl) ms

-- A model of the code and its plain data have the same place.
pub entity-at : (ms : List ModelDef) (i : ℕ) (m : ModelDef) → slice_get ms i ≡ Some m → slice_get (entities_of ms) i ≡ Some (entity_of m)
entity-at [] i m h = cc
entity-at (x ∷ xs) zero m h = let same : x ≡ m = cc in ap (λ (y : ModelDef). Some (entity_of y)) same
entity-at (x ∷ xs) (suc i) m h = entity-at xs i m h

pub fields-there : (ms : List ModelDef) (i : ℕ) (m : ModelDef) → slice_get ms i ≡ Some m → m.fields ≡ fields_at (entities_of ms) i
fields-there ms i m h = rw (entity-at ms i m h) refl

pub groups-there : (ms : List ModelDef) (i : ℕ) (m : ModelDef) → slice_get ms i ≡ Some m → groups_of m.groups ≡ groups_at (entities_of ms) i
groups-there ms i m h = rw (entity-at ms i m h) refl

pub hiding_seen : (gs : List Group) → position (λ g. g.hides) gs ≡ hiding_place (groups_of gs)
hiding_seen gs = position-seen field_group_of groups_of refl (λ _ _. refl) (λ g. g.hides) gs

pub nested_there : (ms : List ModelDef) (i : ℕ) (m : ModelDef) → slice_get ms i ≡ Some m → m.nested ≡ is_nested_at (entities_of ms) i
nested_there ms i m h = rw (entity-at ms i m h) refl
