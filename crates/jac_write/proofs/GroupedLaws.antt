-- Records of a model that gets new groups: which drafts stay, and what is stored for them.
use Rattle.std.proofs.Common.{◌≡◌, ◌∙◌, sym, subst, refl, ap, arith, ℕ, ◌≤◌, ◌&&◌, Bool, true, false, not, if◌then◌else◌, List, [], ◌∷◌, length, map, Option, Some, None}
use Rattle.std.proofs.lemmas.List.{length-map}
use mathlib.Core.Bool.{beq}
use Rattle.jac_value.specs.declared.value.Value.{Value}
use Rattle.jac_world.specs.World.{holds}
use Rattle.jac_lang.specs.Lookup.{groups_at, hiding_place}
use Rattle.jac_lang.specs.Syntax.{Entity}
use Rattle.jac_plain.specs.Records.{is_hidden_by}
use Rattle.jac_write.specs.Drafts.{hides}
use Rattle.jac_write.specs.Regrouped.{is_from, stays}

shown_twice : (b : Bool) → (beq true b && true) ≡ not (not b)
shown_twice true = refl
shown_twice false = refl

-- A guard that asks for one label.
pub guard_shown : (w : ℕ → Bool) (label : ℕ) (guard : List (ℕ × Bool)) → guard ≡ (label, true) ∷ [] → holds w guard ≡ not (hides w (Some label))
guard_shown w label guard one = ap (holds w) one ∙ shown_twice (w label)

-- No group from this place on hides the record.
pub stays_always : (models : List Entity) (w : ℕ → Bool) (m id first : ℕ) (place : Option ℕ) → place ≡ hiding_place (groups_at models m) → is_from first place ≡ false
    → not (hides w None) ≡ stays models w m id first
stays_always models w m id first place is earlier = rw (← is, earlier) refl

-- A group from this place on hides the record.
pub stays_shown : (models : List Entity) (w : ℕ → Bool) (m id first g label : ℕ) (place : Option ℕ) → place ≡ hiding_place (groups_at models m) → is_from first place ≡ true → place ≡ Some g
    → not (hides w (Some label)) ≡ not (is_hidden_by w id (Some g))
    → not (hides w (Some label)) ≡ stays models w m id first
stays_shown models w m id first g label place is later some same =
    same ∙ ap (λ o. not (is_hidden_by w id o)) (sym some) ∙ rw (← is, later) refl

stored_if : (b : Bool) (step : List Value → List Value) (drafts staying stored merged : List (List Value)) → length drafts ≤ 1
    → staying ≡ (if b then drafts else []) → stored ≡ map step staying → (length stored ≤ 1 → merged ≡ stored)
    → merged ≡ (if b then map step drafts else [])
stored_if true step drafts staying stored merged few stay are same =
    let is : stored ≡ map step drafts = are ∙ ap (map step) stay in
    let long : length drafts ≡ length stored = sym (ap length is ∙ length-map drafts step) in
    same (subst (λ n. n ≤ 1) long few) ∙ is
stored_if false step drafts staying stored merged few stay are same =
    let is : stored ≡ [] = are ∙ ap (map step) stay in
    same (rw is (omega arith)) ∙ is

-- The merged alternatives show what is stored for the drafts that stay.
pub stored_staying : (holding staying_there : Bool) (step : List Value → List Value) (drafts staying stored merged : List (List Value)) → length drafts ≤ 1
    → staying ≡ (if holding then drafts else []) → holding ≡ staying_there → stored ≡ map step staying → (length stored ≤ 1 → merged ≡ stored)
    → merged ≡ (if staying_there then map step drafts else [])
stored_staying holding staying_there step drafts staying stored merged few stay held are same =
    stored_if staying_there step drafts staying stored merged few (stay ∙ ap (λ (b : Bool). if b then drafts else []) held) are same
