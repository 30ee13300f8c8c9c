-- The innermost binding of a name.
use Rattle.std.proofs.Common.{◌≡◌, ◌∙◌, refl, sym, ap, ℕ, zero, suc, Bool, true, false, if◌then◌else◌, List, [], ◌∷◌, ◌++◌, length, slice_set, get_or, Option, Some, None}
use Rattle.jac_value.specs.declared.value.Value.{Value}
use Rattle.jac_lang.specs.declared.bindings.Binding.{Binding}
use Rattle.jac_lang.specs.Lookup.{same_text}
use Rattle.jac_plain.specs.Expressions.{binding}
use Rattle.jac_plain.specs.Statements.{with_value, binds}
use Rattle.jac_pruned_pages.specs.Places.{place_after, last_place}

-- The last binding has another name, or this one.
pub place_passed : (name : List ℕ) (outer : List Binding) (b : Binding) → same_text b.name name ≡ false → last_place name (outer ++ b ∷ []) ≡ last_place name outer
place_passed name [] b other = ap (λ c. place_after c None) other
place_passed name (o ∷ outer) b other = ap (place_after (same_text o.name name)) (place_passed name outer b other)

pub place_found : (name : List ℕ) (outer : List Binding) (b : Binding) → same_text b.name name ≡ true → last_place name (outer ++ b ∷ []) ≡ Some (length outer)
place_found name [] b same = ap (λ c. place_after c None) same
place_found name (o ∷ outer) b same = ap (place_after (same_text o.name name)) (place_found name outer b same)

abbrev is_there : Option ℕ → Bool
is_there None = false
is_there (Some i) = true

binds-place : (name : List ℕ) (bs : List Binding) → binds name bs ≡ is_there (last_place name bs)
binds-place name [] = refl
binds-place name (b ∷ bs) = by (same_text b.name name) (last_place name bs) (binds-place name bs)
  where
    by : (one : Bool) (p : Option ℕ) → binds name bs ≡ is_there p → (if one then true else binds name bs) ≡ is_there (place_after one p)
    by true None h = refl
    by true (Some i) h = refl
    by false None h = h
    by false (Some i) h = h

-- What `assigned` does to a first binding, by whether a later binding has the name and whether this
-- one has it.
abbrev assigned_by : Bool → Bool → Binding → Value → List Binding → List Binding → List Binding
assigned_by true one b v bs changed = b ∷ changed
assigned_by false true b v bs changed = binding b.name v ∷ bs
assigned_by false false b v bs changed = b ∷ bs

by_cases : (later one : Bool) (b : Binding) (v : Value) (bs changed : List Binding)
    → (if later then b ∷ changed else (if one then binding b.name v ∷ bs else b ∷ bs)) ≡ assigned_by later one b v bs changed
by_cases true one b v bs changed = refl
by_cases false true b v bs changed = refl
by_cases false false b v bs changed = refl

module _ (name : List ℕ) (v : Value) where
  assigned-cons : (b : Binding) (bs : List Binding) (p : Option ℕ) (one : Bool) → last_place name bs ≡ p → same_text b.name name ≡ one
      → with_value name v (b ∷ bs) ≡ assigned_by (is_there p) one b v bs (with_value name v bs)
  assigned-cons b bs p one place same =
      by_cases (binds name bs) (same_text b.name name) b v bs (with_value name v bs)
      ∙ ap (λ l. assigned_by l (same_text b.name name) b v bs (with_value name v bs)) (binds-place name bs ∙ ap is_there place)
      ∙ ap (λ o. assigned_by (is_there p) o b v bs (with_value name v bs)) same

  -- If no binding has the name.
  pub assigned-none : (bs : List Binding) → last_place name bs ≡ None → with_value name v bs ≡ bs
  assigned-none [] none = refl
  assigned-none (b ∷ bs) none = step (last_place name bs) (same_text b.name name) refl refl none
    where
      step : (p : Option ℕ) (one : Bool) → last_place name bs ≡ p → same_text b.name name ≡ one → place_after (same_text b.name name) (last_place name bs) ≡ None → with_value name v (b ∷ bs) ≡ b ∷ bs
      step None false place same n = assigned-cons b bs None false place same
      step None true place same n = cc
      step (Some i) one place same n = cc

  -- If the binding at this place is the innermost.
  pub assigned-some : (bs : List Binding) (i : ℕ) (x : Binding) → last_place name bs ≡ Some i → x ≡ get_or bs i x
      → slice_set bs i (binding x.name v) ≡ with_value name v bs
  assigned-some [] i x place item = cc
  assigned-some (b ∷ bs) i x place item = step (last_place name bs) (same_text b.name name) i refl refl place item (λ j there at_j. assigned-some bs j x there at_j)
    where
      step : (p : Option ℕ) (one : Bool) (i : ℕ) → last_place name bs ≡ p → same_text b.name name ≡ one → place_after (same_text b.name name) (last_place name bs) ≡ Some i → x ≡ get_or (b ∷ bs) i x
          → ((j : ℕ) → last_place name bs ≡ Some j → x ≡ get_or bs j x → slice_set bs j (binding x.name v) ≡ with_value name v bs)
          → slice_set (b ∷ bs) i (binding x.name v) ≡ with_value name v (b ∷ bs)
      step None false i place same e item again = cc
      step None true zero place same e item again = ap (λ y. binding y.name v ∷ bs) item ∙ sym (assigned-cons b bs None true place same)
      step None true (suc i) place same e item again = cc
      step (Some j) one zero place same e item again = cc
      step (Some j) one (suc i) place same e item again =
          let there : last_place name bs ≡ Some i = cc in
          ap (λ es. b ∷ es) (again i there item) ∙ sym (assigned-cons b bs (Some j) one place same)
