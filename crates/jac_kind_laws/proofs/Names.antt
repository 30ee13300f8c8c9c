-- Looking up a name finds its innermost binding, and the value of this binding.
use Rattle.std.proofs.Common.{◌≡◌, refl, sym, ap, ◌∙◌, subst, ℕ, Bool, true, false, List, [], ◌∷◌, Option, Some, None, option_map, if◌then◌else◌}
use Rattle.jac_value.specs.declared.value.Kind.{Kind}
use Rattle.jac_value.specs.declared.value.Value.{Value}
use Rattle.jac_lang.specs.declared.bindings.Binding.{Binding}
use Rattle.jac_lang.specs.Lookup.{same_text}
use Rattle.jac_plain.specs.Expressions.{look_from}
use Rattle.jac_check.specs.Scope.{Named, innermost, meaning_of}
use Rattle.jac_kind_laws.specs.Fits.{Has, AreBound}

-- The innermost binding of the name in the list.
abbrev pub last_named : Option Named → List Named → List ℕ → Option Named
last_named found [] x = found
last_named found (n ∷ ns) x = last_named (if same_text n.name x then Some n else found) ns x

meaning_if : (b : Bool) (n : Named) (o : Option Named) → (if b then Some n.meaning else option_map (λ (z : Named). z.meaning) o) ≡ option_map (λ (z : Named). z.meaning) (if b then Some n else o)
meaning_if true n o = refl
meaning_if false n o = refl

-- Its meaning is the one that is found.
pub meaning_last : (o : Option Named) (ns : List Named) (x : List ℕ) → innermost (option_map (λ (z : Named). z.meaning) o) ns x ≡ option_map (λ (z : Named). z.meaning) (last_named o ns x)
meaning_last o [] x = refl
meaning_last o (n ∷ ns) x =
    ap (λ m. innermost m ns x) (meaning_if (same_text n.name x) n o) ∙ meaning_last (if same_text n.name x then Some n else o) ns x

kind_named_by : (o : Option Named) (k : Kind) → option_map (λ m. m.kind) (option_map (λ (z : Named). z.meaning) o) ≡ Some k → (n : Named) × (o ≡ Some n) × (n.meaning.kind ≡ k)
kind_named_by None k h = cc
kind_named_by (Some n) k h = (n, refl, cc)

value_if : (b : Bool) (n : Named) (o : Option Named) (v u : Value) → Has n.meaning.kind v → ((m : Named) → o ≡ Some m → Has m.meaning.kind u)
    → (m : Named) → (if b then Some n else o) ≡ Some m → Has m.meaning.kind (if b then v else u)
value_if true n o v u g h m e = let same : n ≡ m = cc in subst (λ (z : Named). Has z.meaning.kind v) same g
value_if false n o v u g h m e = h m e

pub value_named : (ns : List Named) (env : List Binding) (x : List ℕ) (o : Option Named) (v : Value) → AreBound ns env → ((m : Named) → o ≡ Some m → Has m.meaning.kind v)
    → (m : Named) → last_named o ns x ≡ Some m → Has m.meaning.kind (look_from v env x)
value_named [] [] x o v g h m e = h m e
value_named (n ∷ ns) (b ∷ env) x o v g h m e =
    value_named ns env x (if same_text n.name x then Some n else o) (if same_text b.name x then b.bound_to else v) g.2
    (subst (λ (name : List ℕ). (j : Named) → (if same_text n.name x then Some n else o) ≡ Some j → Has j.meaning.kind (if same_text name x then b.bound_to else v)) g.0
    (value_if (same_text n.name x) n o b.bound_to v g.1 h)) m e
value_named [] (b ∷ env) x o v g h m e = absurd g
value_named (n ∷ ns) [] x o v g h m e = absurd g

-- The value of a name has the kind of the innermost binding.
pub name_fits : (ns : List Named) (env : List Binding) (x : List ℕ) (v : Value) (k : Kind) → AreBound ns env → option_map (λ m. m.kind) (meaning_of ns x) ≡ Some k → Has k (look_from v env x)
name_fits ns env x v k g h =
    let found = kind_named_by (last_named None ns x) k (ap (λ m. option_map (λ z. z.kind) m) (sym (meaning_last None ns x)) ∙ h) in
    subst (λ (j : Kind). Has j (look_from v env x)) found.2 (value_named ns env x None v g (λ m e. cc) found.0 found.1)
