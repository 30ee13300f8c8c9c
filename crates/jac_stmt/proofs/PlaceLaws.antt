-- The innermost binding of a name.
use Rattle.std.proofs.Common.{◌≡◌, ◌∙◌, refl, sym, ap, ℕ, zero, suc, Bool, true, false, if◌then◌else◌, List, [], ◌∷◌, ◌++◌, length, slice_set, get_or, Option, Some, None}
use Rattle.jac_value.specs.declared.value.Value.{Value}
use Rattle.jac_facet.specs.Shape.{Shape, at}
use Rattle.jac_lang.specs.declared.bindings.Binding.{Binding}
use Rattle.jac_lang.specs.Lookup.{same_text}
use Rattle.jac_plain.specs.Expressions.{binding}
use Rattle.jac_plain.specs.Statements.{with_value, binds}
use Rattle.jac_expr.specs.Seen.{env_at}
use Rattle.jac_stmt.specs.Places.{name_place_after, last_name_place}

-- The last binding has another name, or this one.
pub place_passed : (name : List ℕ) (outer : List (List ℕ × Shape Value)) (b : List ℕ × Shape Value) → same_text b.0 name ≡ false → last_name_place name (outer ++ b ∷ []) ≡ last_name_place name outer
place_passed name [] b other = ap (λ c. name_place_after c None) other
place_passed name (o ∷ outer) b other = ap (name_place_after (same_text o.0 name)) (place_passed name outer b other)

pub place_found : (name : List ℕ) (outer : List (List ℕ × Shape Value)) (b : List ℕ × Shape Value) → same_text b.0 name ≡ true → last_name_place name (outer ++ b ∷ []) ≡ Some (length outer)
place_found name [] b same = ap (λ c. name_place_after c None) same
place_found name (o ∷ outer) b same = ap (name_place_after (same_text o.0 name)) (place_found name outer b same)

abbrev is_there : Option ℕ → Bool
is_there None = false
is_there (Some i) = true

binds-place : (w : ℕ → Bool) (name : List ℕ) (bs : List (List ℕ × Shape Value)) → binds name (env_at w bs) ≡ is_there (last_name_place name bs)
binds-place w name [] = refl
binds-place w name (b ∷ bs) = by (same_text b.0 name) (last_name_place name bs) (binds-place w name bs)
  where
    by : (one : Bool) (p : Option ℕ) → binds name (env_at w bs) ≡ is_there p → (if one then true else binds name (env_at w bs)) ≡ is_there (name_place_after one p)
    by true None h = refl
    by true (Some i) h = refl
    by false None h = h
    by false (Some i) h = h

-- What `assigned` does with a first binding, by whether a later one has the name and whether this
-- one has it.
abbrev assigned_by : Bool → Bool → Binding → Value → List Binding → List Binding → List Binding
assigned_by true one b v bs changed = b ∷ changed
assigned_by false true b v bs changed = binding b.name v ∷ bs
assigned_by false false b v bs changed = b ∷ bs

by_cases : (later one : Bool) (b : Binding) (v : Value) (bs changed : List Binding)
    → (if later then b ∷ changed else (if one then binding b.name v ∷ bs else b ∷ bs)) ≡ assigned_by later one b v bs changed
by_cases true one b v bs changed = refl
by_cases false true b v bs changed = refl
by_cases false false b v bs changed = refl

pub same_either : {A : Type 0} {x y : A} (c : Bool) → x ≡ y → x ≡ (if c then y else x)
same_either true e = e
same_either false e = refl

module _ (w : ℕ → Bool) (name : List ℕ) (v : Value) where
  assigned-cons : (b : List ℕ × Shape Value) (bs : List (List ℕ × Shape Value)) (p : Option ℕ) (one : Bool) → last_name_place name bs ≡ p → same_text b.0 name ≡ one
      → with_value name v (env_at w (b ∷ bs)) ≡ assigned_by (is_there p) one (binding b.0 (at w b.1)) v (env_at w bs) (with_value name v (env_at w bs))
  assigned-cons b bs p one place same =
      by_cases (binds name (env_at w bs)) (same_text b.0 name) (binding b.0 (at w b.1)) v (env_at w bs) (with_value name v (env_at w bs))
      ∙ ap (λ l. assigned_by l (same_text b.0 name) (binding b.0 (at w b.1)) v (env_at w bs) (with_value name v (env_at w bs))) (binds-place w name bs ∙ ap is_there place)
      ∙ ap (λ o. assigned_by (is_there p) o (binding b.0 (at w b.1)) v (env_at w bs) (with_value name v (env_at w bs))) same

  -- No binding has the name.
  pub assigned-none : (bs : List (List ℕ × Shape Value)) → last_name_place name bs ≡ None → with_value name v (env_at w bs) ≡ env_at w bs
  assigned-none [] none = refl
  assigned-none (b ∷ bs) none = step (last_name_place name bs) (same_text b.0 name) refl refl none
    where
      step : (p : Option ℕ) (one : Bool) → last_name_place name bs ≡ p → same_text b.0 name ≡ one → name_place_after (same_text b.0 name) (last_name_place name bs) ≡ None → with_value name v (env_at w (b ∷ bs)) ≡ env_at w (b ∷ bs)
      step None false place same n = assigned-cons b bs None false place same
      step None true place same n = cc
      step (Some i) one place same n = cc

  -- The binding at this place is the innermost, and gets another value under a condition.
  pub assigned-some : (c : Bool) (bs : List (List ℕ × Shape Value)) (i : ℕ) (x : List ℕ × Shape Value) (f : Shape Value) → last_name_place name bs ≡ Some i → x ≡ get_or bs i x
      → at w f ≡ (if c then v else at w x.1) → env_at w (slice_set bs i (x.0, f)) ≡ (if c then with_value name v (env_at w bs) else env_at w bs)
  assigned-some c [] i x f place item value = cc
  assigned-some c (b ∷ bs) i x f place item value = step (last_name_place name bs) (same_text b.0 name) i refl refl place item (λ j there at_j. assigned-some c bs j x f there at_j value)
    where
      later : (c : Bool) (b : List ℕ × Shape Value) (j : ℕ) → last_name_place name bs ≡ Some j → env_at w (slice_set bs j (x.0, f)) ≡ (if c then with_value name v (env_at w bs) else env_at w bs)
          → binding b.0 (at w b.1) ∷ env_at w (slice_set bs j (x.0, f)) ≡ (if c then with_value name v (env_at w (b ∷ bs)) else env_at w (b ∷ bs))
      later true b j place h = ap (λ es. binding b.0 (at w b.1) ∷ es) h ∙ sym (assigned-cons b bs (Some j) (same_text b.0 name) place refl)
      later false b j place h = ap (λ es. binding b.0 (at w b.1) ∷ es) h

      here : (c : Bool) → last_name_place name bs ≡ None → same_text b.0 name ≡ true → x ≡ b → at w f ≡ (if c then v else at w x.1)
          → binding x.0 (at w f) ∷ env_at w bs ≡ (if c then with_value name v (env_at w (b ∷ bs)) else env_at w (b ∷ bs))
      here true none same is value = ap (λ u. binding x.0 u ∷ env_at w bs) value ∙ ap (λ y. binding y.0 v ∷ env_at w bs) is ∙ sym (assigned-cons b bs None true none same)
      here false none same is value = ap (λ u. binding x.0 u ∷ env_at w bs) value ∙ ap (λ y. binding y.0 (at w y.1) ∷ env_at w bs) is

      step : (p : Option ℕ) (one : Bool) (i : ℕ) → last_name_place name bs ≡ p → same_text b.0 name ≡ one → name_place_after (same_text b.0 name) (last_name_place name bs) ≡ Some i → x ≡ get_or (b ∷ bs) i x
          → ((j : ℕ) → last_name_place name bs ≡ Some j → x ≡ get_or bs j x → env_at w (slice_set bs j (x.0, f)) ≡ (if c then with_value name v (env_at w bs) else env_at w bs))
          → env_at w (slice_set (b ∷ bs) i (x.0, f)) ≡ (if c then with_value name v (env_at w (b ∷ bs)) else env_at w (b ∷ bs))
      step None false i place same e item again = cc
      step None true zero place same e item again = here c place same item value
      step None true (suc i) place same e item again = cc
      step (Some j) one zero place same e item again = cc
      step (Some j) one (suc i) place same e item again =
          let there : last_name_place name bs ≡ Some i = cc in
          later c b i there (again i there item)
