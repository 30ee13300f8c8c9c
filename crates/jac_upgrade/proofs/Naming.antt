-- The records that the change of an upgrade names.
use Rattle.std.proofs.Common.{◌≡◌, ◌∙◌, inl, inr, refl, ap, sym, subst, ℕ, ◌≤◌, ◌==◌, ◌||◌, Bool, true, false, if◌then◌else◌, List, [], ◌∷◌, length}
use Rattle.std.proofs.lemmas.Bool.{cases_lt, eqb-true}
use Rattle.std.proofs.lemmas.Option.{slice_get_past}
use Rattle.std.specs.List.{AllByRecursion}
use Rattle.jac_value.specs.Ids.{model_of_id}
use Rattle.jac_world.specs.World.{IsAscending, IsRisingBy, StartsAboveBy, shown_by}
use Rattle.jac_lang.specs.Syntax.{Entity}
use Rattle.jac_rows.specs.Tables.{rows_of, rows_or_none}
use Rattle.jac_rows.specs.declared.row.Row.{Row}
use Rattle.jac_rows.specs.declared.state.State.{State}
use Rattle.jac_keep.specs.declared.alteration.Alteration.{Alteration}
use Rattle.jac_upgrade.specs.Changed.{AreIdsOf, changed_ids, has_alternative}
use Rattle.jac_upgrade.specs.Steps.{IsUpgradeOf, is_changed}
use Rattle.jac_upgrade.proofs.Applied.{Changes}

above_ids : (k : ℕ) (xs : List Alteration) → StartsAboveBy (λ (a : Alteration). a.id) k xs → StartsAboveBy (λ (x : ℕ). x) k (changed_ids xs)
above_ids k [] h = tt
above_ids k (a ∷ xs) h = h

ascending_ids : (xs : List Alteration) → IsRisingBy (λ (a : Alteration). a.id) xs → IsAscending (changed_ids xs)
ascending_ids [] h = tt
ascending_ids (a ∷ xs) h = (above_ids a.id xs h.0, ascending_ids xs h.1)

or_as_if : (b c d : Bool) → c ≡ d → (b || c) ≡ (if b then true else d)
or_as_if true c d e = refl
or_as_if false c d e = e

shown_ids : (id : ℕ) (xs : List Alteration) → shown_by (changed_ids xs) id ≡ is_changed id xs
shown_ids id [] = refl
shown_ids id (a ∷ xs) = or_as_if (a.id == id) (shown_by (changed_ids xs) id) (is_changed id xs) (shown_ids id xs)

there_if : (F : ℕ → Bool) (id : ℕ) (a : Alteration) (rest : Bool) (b : Bool) → (a.id == id) ≡ b → F a.id ≡ true → (rest ≡ true → F id ≡ true) → (if b then true else rest) ≡ true → F id ≡ true
there_if F id a rest true same one later h = subst (λ i. F i ≡ true) (eqb-true a.id id same) one
there_if F id a rest false same one later h = later h

-- Each record that is named has a row.
rows_there : (olds news : List Entity) (s : State) (id : ℕ) (xs : List Alteration) → AllByRecursion (IsUpgradeOf olds news s) xs → is_changed id xs ≡ true
    → has_alternative id (rows_of s.tables (model_of_id id)) ≡ true
rows_there olds news s id [] all h = cc
rows_there olds news s id (a ∷ xs) all h =
    there_if (λ i. has_alternative i (rows_of s.tables (model_of_id i))) id a (is_changed id xs) (a.id == id) refl all.0.upgrade.there (λ later. rows_there olds news s id xs all.1 later) h

same_tests : (a b : Bool) → (a ≡ true → b ≡ true) → (b ≡ true → a ≡ true) → a ≡ b
same_tests true b f g = sym (f refl)
same_tests false true f g = g refl
same_tests false false f g = refl

-- A record that has a row belongs to a model.
within_there : (id n : ℕ) (tables : List (List Row)) → length tables ≤ n → has_alternative id (rows_of tables n) ≡ true → ⊥
within_there id n tables past h =
    let none : has_alternative id (rows_of tables n) ≡ false = ap (λ t. has_alternative id (rows_or_none t)) (slice_get_past tables n past) in
    cc

pub law_names : (olds news : List Entity) (s : State) (changed : List Alteration) → Changes olds news s changed → AreIdsOf s (changed_ids changed)
law_names olds news s changed c = record {
  ascending = ascending_ids changed c.apart.rising;
  each = λ id.
      shown_ids id changed
      ∙ same_tests (is_changed id changed) (has_alternative id (rows_of s.tables (model_of_id id)))
      (rows_there olds news s id changed c.below.each)
      (λ there. elim (cases_lt (model_of_id id) (length olds)) [
        | inl within ↦ c.below.named id within there
        | inr past ↦ absurd (within_there id (model_of_id id) s.tables (subst (λ n. n ≤ model_of_id id) (sym c.tables) past) there)
      ]);
}
