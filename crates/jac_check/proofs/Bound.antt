-- The innermost of the names that are bound.
use Rattle.std.proofs.Common.{◌≡◌, refl, sym, ap, ◌∙◌, ℕ, Bool, true, false, List, [], ◌∷◌, ◌++◌, Option, Some, None, if◌then◌else◌}
use Rattle.jac_value.specs.declared.value.Kind.{Kind}
use Rattle.jac_lang.specs.Lookup.{same_text}
use Rattle.jac_check.specs.declared.names.Meaning.{Meaning}
use Rattle.jac_check.specs.Scope.{Named, scope_name, innermost, meaning_of}

abbrev or_found : Option Meaning → Option Meaning → Option Meaning
or_found None d = d
or_found (Some m) d = Some m

or_twice : (r : Option Meaning) (m : Meaning) (d : Option Meaning) → or_found r (Some m) ≡ or_found (or_found r (Some m)) d
or_twice None m d = refl
or_twice (Some n) m d = refl

-- Later names hide earlier ones.
innermost-append : (d : Option Meaning) (ns more : List Named) (x : List ℕ) → innermost d (ns ++ more) x ≡ innermost (innermost d ns x) more x
innermost-append d [] more x = refl
innermost-append d (n ∷ ns) more x = innermost-append (if same_text n.name x then Some n.meaning else d) ns more x

or-step : (b : Bool) (d : Option Meaning) (m : Meaning) (ns : List Named) (x : List ℕ)
    → innermost d ns x ≡ or_found (meaning_of ns x) d → innermost (Some m) ns x ≡ or_found (meaning_of ns x) (Some m)
    → innermost (if b then Some m else d) ns x ≡ or_found (innermost (if b then Some m else None) ns x) d
or-step true d m ns x before found =
    found ∙ or_twice (meaning_of ns x) m d ∙ ap (λ (r : Option Meaning). or_found r d) (sym found)
or-step false d m ns x before found = before

innermost-or : (d : Option Meaning) (ns : List Named) (x : List ℕ) → innermost d ns x ≡ or_found (meaning_of ns x) d
innermost-or d [] x = refl
innermost-or d (n ∷ ns) x = or-step (same_text n.name x) d n.meaning ns x (innermost-or d ns x) (innermost-or (Some n.meaning) ns x)

pub bound-hit : (ns : List Named) (y x : List ℕ) (k : Kind) (by_let : Bool) → same_text y x ≡ true → Some (scope_name y k by_let).meaning ≡ meaning_of (ns ++ scope_name y k by_let ∷ []) x
bound-hit ns y x k by_let same = sym (innermost-append None ns (scope_name y k by_let ∷ []) x ∙ rw same refl)

pub bound-miss : (ns : List Named) (y x : List ℕ) (k : Kind) (by_let : Bool) → same_text y x ≡ false → meaning_of ns x ≡ meaning_of (ns ++ scope_name y k by_let ∷ []) x
bound-miss ns y x k by_let same = sym (innermost-append None ns (scope_name y k by_let ∷ []) x ∙ rw same refl)

pub bound-within : (ns more : List Named) (x : List ℕ) (m : Meaning) → Some m ≡ meaning_of more x → Some m ≡ meaning_of (ns ++ more) x
bound-within ns more x m h =
    ap (λ (r : Option Meaning). or_found r (meaning_of ns x)) h ∙ sym (innermost-append None ns more x ∙ innermost-or (meaning_of ns x) more x)

pub bound-without : (ns more : List Named) (x : List ℕ) → None ≡ meaning_of more x → meaning_of ns x ≡ meaning_of (ns ++ more) x
bound-without ns more x h =
    ap (λ (r : Option Meaning). or_found r (meaning_of ns x)) h ∙ sym (innermost-append None ns more x ∙ innermost-or (meaning_of ns x) more x)
