-- What an application has in common with the one that it extends.
use Rattle.std.proofs.Common.{◌≡◌, ◌∙◌, refl, ap, sym, arith, zero, suc, ℕ, ◌+◌, ◌<◌, ◌≤◌, ◌&&◌, nat_lt, cond, not, Bool, true, false, if◌then◌else◌, IsTrue, List, [], ◌∷◌, ◌++◌, length, drop, Option, Some, None, is_some}
use Rattle.std.specs.Prelude.{unwrap_or}
use Rattle.std.specs.List.{AllByRecursion, position_or_len}
use Rattle.std.proofs.lemmas.Bool.{and_parts}
use Rattle.std.proofs.lemmas.Bool.Decides.{nat_tests, Decides-eqb}
use Rattle.std.proofs.lemmas.Slice.Eq.{slice_eq-Decides}
use mathlib.Core.Bool.{beq}
use Rattle.jac_value.specs.declared.value.Kind.TheVariants as kind
use Rattle.jac_lang.specs.declared.field_kinds.Field.{Field}
use Rattle.jac_lang.specs.declared.field_kinds.KindName.{KindName}
use Rattle.jac_lang.specs.declared.field_kinds.KindName.TheVariants as kinds
use Rattle.jac_lang.specs.Lookup.{same_text, fields_at, is_nested_at, kind_named, model_place}
use Rattle.jac_lang.specs.Syntax.{Application, Entity}
use Rattle.jac_check.specs.Kinds.{is_model}
use Rattle.jac_check.specs.Scope.{has_field, has_model}
use Rattle.jac_check.specs.Well.{are_fields, are_groups, are_models, are_pages, is_kind, is_viewer, is_well}
use Rattle.jac_plain.specs.Models.{kinds_of_fields}
use Rattle.jac_upgrade.specs.Alike.{same_field, same_kind}
use Rattle.jac_upgrade.specs.Extends.{fields_lack, groups_lack, model_lack, models_lack, or_else}
use Rattle.jac_upgrade.specs.declared.fault.UpgradeFault.{UpgradeFault}
use Rattle.jac_upgrade.specs.declared.fault.UpgradeFault.TheVariants as faults

same_names : (a b : List ℕ) → same_text a b ≡ true → a ≡ b
same_names a b h = (slice_eq-Decides Decides-eqb a b (same_text a b) refl).0 h

same_flags : (a b : Bool) → beq a b ≡ true → a ≡ b
same_flags true true h = refl
same_flags true false h = cc
same_flags false true h = cc
same_flags false false h = refl

-- The parts of a model that the other application has too.
record Alike (e f : Entity) : Type 0 where
  name : e.name ≡ f.name
  nested : e.nested ≡ f.nested
  fields : (m : ℕ) × (fields_lack m 0 e.fields f.fields ≡ None)

neither : (a b : Option UpgradeFault) → or_else a b ≡ None → (a ≡ None) × (b ≡ None)
neither None b h = (refl, h)
neither (Some a) b h = cc

alike_if : (m : ℕ) (e f : Entity) (b : Bool) → (same_text e.name f.name && beq e.nested f.nested) ≡ b
    → (if b then or_else (fields_lack m 0 e.fields f.fields) (groups_lack m 0 e.groups f.groups) else Some (faults.Model m)) ≡ None → Alike e f
alike_if m e f true same h =
    let parts = and_parts (same_text e.name f.name) (beq e.nested f.nested) same in
    record {
      name = same_names e.name f.name parts.0;
      nested = same_flags e.nested f.nested parts.1;
      fields = (m, (neither (fields_lack m 0 e.fields f.fields) (groups_lack m 0 e.groups f.groups) h).0);
    }
alike_if m e f false same h = cc

alike : (m : ℕ) (e f : Entity) → model_lack m e f ≡ None → Alike e f
alike m e f h = alike_if m e f (same_text e.name f.name && beq e.nested f.nested) refl h

first_like : (m : ℕ) (e : Entity) (es : List Entity) (f : Entity) (fs : List Entity) → models_lack m (e ∷ es) (f ∷ fs) ≡ None → Alike e f
first_like m e es f fs h = alike m e f (neither (model_lack m e f) (models_lack (m + 1) es fs) h).0

rest_like : (m : ℕ) (e : Entity) (es : List Entity) (f : Entity) (fs : List Entity) → models_lack m (e ∷ es) (f ∷ fs) ≡ None → models_lack (m + 1) es fs ≡ None
rest_like m e es f fs h = (neither (model_lack m e f) (models_lack (m + 1) es fs) h).1

more_models : (m : ℕ) (olds news : List Entity) → models_lack m olds news ≡ None → length olds ≤ length news
more_models m [] news h = omega arith
more_models m (e ∷ es) [] h = cc
more_models m (e ∷ es) (f ∷ fs) h = let rest = more_models (m + 1) es fs (rest_like m e es f fs h) in omega (arith, rest)

-- The other application has a model at each place.
pub at_least : (olds news : List Entity) → models_lack 0 olds news ≡ None → length olds ≤ length news
at_least olds news h = more_models 0 olds news h

nested_from : (k : ℕ) (olds news : List Entity) (m : ℕ) → models_lack k olds news ≡ None → m < length olds → is_nested_at olds m ≡ is_nested_at news m
nested_from k [] news m h within = absurd (omega (arith, within))
nested_from k (e ∷ es) [] m h within = cc
nested_from k (e ∷ es) (f ∷ fs) zero h within = (first_like k e es f fs h).nested
nested_from k (e ∷ es) (f ∷ fs) (suc m) h within = nested_from (k + 1) es fs m (rest_like k e es f fs h) (omega (arith, within))

pub same_nested : (olds news : List Entity) (m : ℕ) → models_lack 0 olds news ≡ None → m < length olds → is_nested_at olds m ≡ is_nested_at news m
same_nested olds news m h within = nested_from 0 olds news m h within

fields_from : (k : ℕ) (olds news : List Entity) (m : ℕ) → models_lack k olds news ≡ None → m < length olds → (n : ℕ) × (fields_lack n 0 (fields_at olds m) (fields_at news m) ≡ None)
fields_from k [] news m h within = absurd (omega (arith, within))
fields_from k (e ∷ es) [] m h within = cc
fields_from k (e ∷ es) (f ∷ fs) zero h within = (first_like k e es f fs h).fields
fields_from k (e ∷ es) (f ∷ fs) (suc m) h within = fields_from (k + 1) es fs m (rest_like k e es f fs h) (omega (arith, within))

-- A model of one application has its place in the other.
abbrev place_in : List ℕ → List Entity → ℕ
place_in name models = position_or_len (λ (m : Entity). same_text m.name name) models

place_if : (b : Bool) (n k l : ℕ) → (nat_lt n l ≡ true → k ≡ n) → nat_lt (cond (not b) (1 + n) 0) (suc l) ≡ true → cond (not b) (1 + k) 0 ≡ cond (not b) (1 + n) 0
place_if true n k l f h = refl
place_if false n k l f h =
    let later : nat_lt n l ≡ true = grind (nat_tests, arith, h) in
    ap (λ i. 1 + i) (f later)

place_from : (k : ℕ) (name : List ℕ) (olds news : List Entity) → models_lack k olds news ≡ None → nat_lt (place_in name olds) (length olds) ≡ true → place_in name news ≡ place_in name olds
place_from k name [] news h within = cc
place_from k name (e ∷ es) [] h within = cc
place_from k name (e ∷ es) (f ∷ fs) h within =
    ap (λ x. cond (not (same_text x name)) (1 + place_in name fs) 0) (sym (first_like k e es f fs h).name)
    ∙ place_if (same_text e.name name) (place_in name es) (place_in name fs) (length es) (place_from (k + 1) name es fs (rest_like k e es f fs h)) within

known_if : (b : Bool) (n : ℕ) → is_some (cond b (Some n) None) ≡ true → b ≡ true
known_if true n h = refl
known_if false n h = cc

some_of : (b c : Bool) (n k d e : ℕ) → b ≡ true → c ≡ true → k ≡ n → unwrap_or (cond b (Some n) None) d ≡ unwrap_or (cond c (Some k) None) e
some_of true true n k d e p q same = sym same
some_of true false n k d e p q same = cc
some_of false c n k d e p q same = cc

place_same : (olds news : List Entity) (name : List ℕ) → models_lack 0 olds news ≡ None → is_model olds name ≡ true
    → unwrap_or (model_place olds name) (length olds) ≡ unwrap_or (model_place news name) (length news)
place_same olds news name h is =
    let n : ℕ = place_in name olds in
    let k : ℕ = place_in name news in
    let within : nat_lt n (length olds) ≡ true = known_if (nat_lt n (length olds)) n is in
    let same : k ≡ n = place_from 0 name olds news h within in
    let more : length olds ≤ length news = at_least olds news h in
    let there : nat_lt k (length news) ≡ true = grind (nat_tests, arith, within, same, more) in
    some_of (nat_lt n (length olds)) (nat_lt k (length news)) n k (length olds) (length news) within there same

-- A kind of one application is the same in the other.
kind_same : (olds news : List Entity) (k l : KindName) → models_lack 0 olds news ≡ None → is_kind olds k ≡ true → same_kind k l ≡ true → kind_named news l ≡ kind_named olds k
kind_same olds news kinds.Int kinds.Int h is same = refl
kind_same olds news kinds.Int kinds.Text h is same = cc
kind_same olds news kinds.Int kinds.Bool h is same = cc
kind_same olds news kinds.Int (kinds.Ref n) h is same = cc
kind_same olds news kinds.Text kinds.Int h is same = cc
kind_same olds news kinds.Text kinds.Text h is same = refl
kind_same olds news kinds.Text kinds.Bool h is same = cc
kind_same olds news kinds.Text (kinds.Ref n) h is same = cc
kind_same olds news kinds.Bool kinds.Int h is same = cc
kind_same olds news kinds.Bool kinds.Text h is same = cc
kind_same olds news kinds.Bool kinds.Bool h is same = refl
kind_same olds news kinds.Bool (kinds.Ref n) h is same = cc
kind_same olds news (kinds.Ref m) kinds.Int h is same = cc
kind_same olds news (kinds.Ref m) kinds.Text h is same = cc
kind_same olds news (kinds.Ref m) kinds.Bool h is same = cc
kind_same olds news (kinds.Ref m) (kinds.Ref n) h is same =
    ap (λ name. kind.Ref (unwrap_or (model_place news name) (length news))) (sym (same_names m n same))
    ∙ ap (λ i. kind.Ref i) (sym (place_same olds news m h is))

-- The kinds of the fields of one application, followed by those of the added fields.

lack_if : (m n : ℕ) (f g : Field) (fs gs : List Field) (b : Bool) → same_field f g ≡ b → (if b then fields_lack m (n + 1) fs gs else Some (faults.Field m n)) ≡ None
    → (same_field f g ≡ true) × (fields_lack m (n + 1) fs gs ≡ None)
lack_if m n f g fs gs true same h = (same, h)
lack_if m n f g fs gs false same h = cc

kinds_from : (olds news : List Entity) (m n : ℕ) (fs gs : List Field) → models_lack 0 olds news ≡ None → AllByRecursion (λ (f : Field). is_kind olds f.kind ≡ true) fs → fields_lack m n fs gs ≡ None
    → kinds_of_fields news gs ≡ kinds_of_fields olds fs ++ kinds_of_fields news (drop (length fs) gs)
kinds_from olds news m n [] gs h known same = refl
kinds_from olds news m n (f ∷ fs) [] h known same = cc
kinds_from olds news m n (f ∷ fs) (g ∷ gs) h known same =
    let parts = lack_if m n f g fs gs (same_field f g) refl same in
    let one : kind_named news g.kind ≡ kind_named olds f.kind =
    kind_same olds news f.kind g.kind h known.0 (and_parts (same_text f.name g.name) (same_kind f.kind g.kind) parts.0).1 in
    let rest : kinds_of_fields news gs ≡ kinds_of_fields olds fs ++ kinds_of_fields news (drop (length fs) gs) = kinds_from olds news m (n + 1) fs gs h known.1 parts.1 in
    λ i. one i ∷ rest i

-- The fields of a well-formed application have known kinds.
known_fields : (models : List Entity) (earlier fields : List Field) → are_fields models earlier fields ≡ true → AllByRecursion (λ (f : Field). is_kind models f.kind ≡ true) fields
known_fields models earlier [] h = tt
known_fields models earlier (f ∷ fields) h =
    let parts = and_parts (not (has_field f.name earlier) && is_kind models f.kind) (are_fields models (earlier ++ f ∷ []) fields) h in
    ((and_parts (not (has_field f.name earlier)) (is_kind models f.kind) parts.0).1, known_fields models (earlier ++ f ∷ []) fields parts.1)

known_models : (app : Application) (earlier models : List Entity) (m : ℕ) → are_models app earlier models ≡ true → m < length models
    → AllByRecursion (λ (f : Field). is_kind app.models f.kind ≡ true) (fields_at models m)
known_models app earlier [] m h within = absurd (omega (arith, within))
known_models app earlier (e ∷ models) zero h within =
    let parts = and_parts (not (has_model e.name earlier) && (are_fields app.models [] e.fields && are_groups app e [] e.groups)) (are_models app (earlier ++ e ∷ []) models) h in
    let own = and_parts (not (has_model e.name earlier)) (are_fields app.models [] e.fields && are_groups app e [] e.groups) parts.0 in
    known_fields app.models [] e.fields (and_parts (are_fields app.models [] e.fields) (are_groups app e [] e.groups) own.1).0
known_models app earlier (e ∷ models) (suc m) h within =
    let parts = and_parts (not (has_model e.name earlier) && (are_fields app.models [] e.fields && are_groups app e [] e.groups)) (are_models app (earlier ++ e ∷ []) models) h in
    known_models app (earlier ++ e ∷ []) models m parts.1 (omega (arith, within))

known_at : (app : Application) (m : ℕ) → IsTrue (is_well app) → m < length app.models → AllByRecursion (λ (f : Field). is_kind app.models f.kind ≡ true) (fields_at app.models m)
known_at app m well within =
    let outer = and_parts (is_viewer app.models app.viewer) (are_models app [] app.models && are_pages app app.views) well in
    known_models app [] app.models m (and_parts (are_models app [] app.models) (are_pages app app.views) outer.1).0 within

pub kinds_grown : (app : Application) (news : List Entity) (m : ℕ) → IsTrue (is_well app) → models_lack 0 app.models news ≡ None → m < length app.models
    → kinds_of_fields news (fields_at news m) ≡ kinds_of_fields app.models (fields_at app.models m) ++ kinds_of_fields news (drop (length (fields_at app.models m)) (fields_at news m))
kinds_grown app news m well h within =
    let fields = fields_from 0 app.models news m h within in
    kinds_from app.models news fields.0 0 (fields_at app.models m) (fields_at news m) h (known_at app m well within) fields.1
