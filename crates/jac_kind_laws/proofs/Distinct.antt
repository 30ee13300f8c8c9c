-- If no two items have the same name, each is found by its name.
use Rattle.std.specs.Prelude.{⊤}
use Rattle.std.proofs.Common.{◌≡◌, refl, ap, ◌∙◌, subst, ℕ, ◌+◌, zero, suc, Bool, true, false, not, ◌&&◌, List, [], ◌∷◌, ◌++◌, slice_get, position, Some, if◌then◌else◌, append_assoc, arith}
use Rattle.std.specs.List.{position_from}
use Rattle.std.proofs.lemmas.Bool.{and_parts}
use Rattle.std.proofs.lemmas.Iterator.Adapters.{position_from-zero}
use Rattle.jac_lang.specs.declared.field_kinds.Field.{Field}
use Rattle.jac_lang.specs.Lookup.{same_text, model_place, field_place}
use Rattle.jac_lang.specs.Syntax.{Entity, Application}
use Rattle.jac_check.specs.Scope.{has_field, has_model}
use Rattle.jac_check.specs.Well.{is_kind, are_fields, are_groups, are_models}
use Rattle.jac_kind_laws.proofs.SortKeys.{same_name, unseen_first}

module _ {X : Type 0} (name : X → List ℕ) where
  abbrev has_named : List ℕ → List X → Bool
  has_named x [] = false
  has_named x (y ∷ ys) = if same_text (name y) x then true else has_named x ys

  -- Each item has another name than all before it.
  abbrev AreNew : List X → List X → Type 0
  AreNew earlier [] = ⊤
  AreNew earlier (y ∷ ys) = (not (has_named (name y) earlier) ≡ true) × AreNew (earlier ++ y ∷ []) ys

  other_name : (x y : X) (front back : List X) → not (has_named (name x) (front ++ y ∷ back)) ≡ true → same_text (name y) (name x) ≡ false
  other_name x y [] back h = (unseen_first (same_text (name y) (name x)) (has_named (name x) back) h).0
  other_name x y (z ∷ front) back h = other_name x y front back (unseen_first (same_text (name z) (name x)) (has_named (name x) (front ++ y ∷ back)) h).1

  later_name : (x y : X) (front back ys : List X) (i : ℕ) → AreNew (front ++ y ∷ back) ys → slice_get ys i ≡ Some x → same_text (name y) (name x) ≡ false
  later_name x y front back [] i g e = cc
  later_name x y front back (z ∷ ys) zero g e =
      let same : z ≡ x = cc in
      other_name x y front back (subst (λ (w : X). not (has_named (name w) (front ++ y ∷ back)) ≡ true) same g.0)
  later_name x y front back (z ∷ ys) (suc i) g e =
      later_name x y front (back ++ z ∷ []) ys i (subst (λ (earlier : List X). AreNew earlier ys) (append_assoc front (y ∷ back) (z ∷ [])) g.1) e

  found_from : (earlier ys : List X) (n i : ℕ) (x : X) → AreNew earlier ys → slice_get ys i ≡ Some x → position_from (λ y. same_text (name y) (name x)) n ys ≡ Some (n + i)
  found_from earlier [] n i x g e = cc
  found_from earlier (y ∷ ys) n zero x g e =
      let here : y ≡ x = cc in
      let found : same_text (name y) (name x) ≡ true = (same_name (name y) (name x)).1 (ap name here) in
      let at_n : n ≡ n + 0 = omega arith in
      rw found (ap (λ (m : ℕ). Some m) at_n)
  found_from earlier (y ∷ ys) n (suc i) x g e =
      let other : same_text (name y) (name x) ≡ false = later_name x y earlier [] ys i g.1 e in
      let on : n + 1 + i ≡ n + suc i = omega arith in
      rw other (found_from (earlier ++ y ∷ []) ys (n + 1) i x g.1 e ∙ ap (λ (m : ℕ). Some m) on)

  found_at : (ys : List X) (i : ℕ) (x : X) → AreNew [] ys → slice_get ys i ≡ Some x → position (λ y. same_text (name y) (name x)) ys ≡ Some i
  found_at ys i x g e =
      let start : 0 + i ≡ i = omega arith in
      position_from-zero (λ y. same_text (name y) (name x)) ys ∙ (found_from [] ys 0 i x g e ∙ ap (λ (m : ℕ). Some m) start)

abbrev name_of_field : Field → List ℕ
name_of_field f = f.name

abbrev name_of_model : Entity → List ℕ
name_of_model m = m.name

fields_named : (x : List ℕ) (fs : List Field) → has_field x fs ≡ has_named name_of_field x fs
fields_named x [] = refl
fields_named x (f ∷ fs) = ap (λ (later : Bool). if same_text f.name x then true else later) (fields_named x fs)

models_named : (x : List ℕ) (ms : List Entity) → has_model x ms ≡ has_named name_of_model x ms
models_named x [] = refl
models_named x (m ∷ ms) = ap (λ (later : Bool). if same_text m.name x then true else later) (models_named x ms)

fields_new : (ms : List Entity) (earlier fs : List Field) → are_fields ms earlier fs ≡ true → AreNew name_of_field earlier fs
fields_new ms earlier [] h = tt
fields_new ms earlier (f ∷ fs) h =
    let p = and_parts (not (has_field f.name earlier) && is_kind ms f.kind) (are_fields ms (earlier ++ f ∷ []) fs) h in
    let new = (and_parts (not (has_field f.name earlier)) (is_kind ms f.kind) p.0).0 in
    (subst (λ (b : Bool). not b ≡ true) (fields_named f.name earlier) new, fields_new ms (earlier ++ f ∷ []) fs p.1)

models_new : (app : Application) (earlier ms : List Entity) → are_models app earlier ms ≡ true → AreNew name_of_model earlier ms
models_new app earlier [] h = tt
models_new app earlier (m ∷ ms) h =
    let p = and_parts (not (has_model m.name earlier) && (are_fields app.models [] m.fields && are_groups app m [] m.groups)) (are_models app (earlier ++ m ∷ []) ms) h in
    let new = (and_parts (not (has_model m.name earlier)) _ p.0).0 in
    (subst (λ (b : Bool). not b ≡ true) (models_named m.name earlier) new, models_new app (earlier ++ m ∷ []) ms p.1)

-- Each of a model's fields is found by its name.
pub field_found : (ms : List Entity) (fs : List Field) (i : ℕ) (f : Field) → are_fields ms [] fs ≡ true → slice_get fs i ≡ Some f → field_place fs f.name ≡ Some i
field_found ms fs i f h e = found_at name_of_field fs i f (fields_new ms [] fs h) e

-- Each of an application's models is found by its name.
pub model_found : (app : Application) (ms : List Entity) (i : ℕ) (m : Entity) → are_models app [] ms ≡ true → slice_get ms i ≡ Some m → model_place ms m.name ≡ Some i
model_found app ms i m h e = found_at name_of_model ms i m (models_new app [] ms h) e
