-- The fault that the reader of trees returns is a fault of the bytes.
use Rattle.std.proofs.Common.{◌≡◌, ◌↔◌, ◌<◌, ◌≤◌, ℕ, Bool, true, false, List, length, Result, Ok, Err, IsErrOf, refl, sym, ◌∙◌, ap, arith}
use Rattle.std.specs.Str.{IsUtf8, IsValidUpTo, is_utf8}
use Rattle.std.proofs.lemmas.Str.{is_utf8-from_IsUtf8, IsUtf8-from_is_utf8}
use Rattle.jac_tree.specs.Faults.{IsFaultOf, IsShortText}
use Rattle.jac_tree.specs.Grammar.{IsStrayAt, IsDeepAt, IsUnclosedAt}
use Rattle.jac_tree.specs.declared.fault.TreeFault.{TreeFault}
use Rattle.jac_tree.specs.declared.tree.Tree.{Tree}
use Rattle.jac_tree.specs.declared.fault.TreeFault.TheVariants as faults
use Rattle.jac_template.specs.Marked.{is_of_bytes}

abbrev is_long : TreeFault → Bool
is_long faults.Long = true
is_long f = false

abbrev is_no_text : TreeFault → Bool
is_no_text (faults.NotUtf8 at) = true
is_no_text f = false

abbrev fault_in : (TreeFault → Bool) → Result Tree TreeFault → Bool
fault_in test (Ok tree) = false
fault_in test (Err f) = test f

short_text : (bytes : List ℕ) (f : TreeFault) → is_long f ≡ false → is_no_text f ≡ false
    → (IsErrOf {T = Tree} (Err f) faults.Long) ↔ (1048576 < length bytes) → (length bytes ≤ 1048576 → ¬ (IsUtf8 bytes) → (at : ℕ) × (IsErrOf {T = Tree} (Err f) (faults.NotUtf8 at))) → IsShortText bytes
short_text bytes f not_long is_text long no_text =
    let short : length bytes ≤ 1048576 = at_most (λ more. true_is_no_false (sym (ap (fault_in is_long) (long.1 more)) ∙ not_long)) in
    (short, utf8 (is_utf8 bytes) refl short)
  where
    true_is_no_false : true ≡ false → ⊥
    true_is_no_false e = grind (arith, e)

    at_most : ¬ (1048576 < length bytes) → length bytes ≤ 1048576
    at_most h = omega (arith, h)

    utf8 : (test : Bool) → is_utf8 bytes ≡ test → length bytes ≤ 1048576 → IsUtf8 bytes
    utf8 true e short = IsUtf8-from_is_utf8 bytes e
    utf8 false e short =
        let (at, is) = no_text short (λ text. true_is_no_false (sym (is_utf8-from_IsUtf8 bytes text) ∙ e)) in
        absurd (true_is_no_false (sym (ap (fault_in is_no_text) is) ∙ is_text))

pub fault_read : (bytes : List ℕ) (f : TreeFault)
    → (IsErrOf {T = Tree} (Err f) faults.Long) ↔ (1048576 < length bytes)
    → ((at : ℕ) → IsErrOf {T = Tree} (Err f) (faults.NotUtf8 at) → (length bytes ≤ 1048576) × ¬ (IsUtf8 bytes) × IsValidUpTo bytes at)
    → (length bytes ≤ 1048576 → ¬ (IsUtf8 bytes) → (at : ℕ) × (IsErrOf {T = Tree} (Err f) (faults.NotUtf8 at)))
    → ((at : ℕ) → IsErrOf {T = Tree} (Err f) (faults.Stray at) → IsStrayAt bytes at)
    → ((at : ℕ) → IsErrOf {T = Tree} (Err f) (faults.Deep at) → IsDeepAt bytes at)
    → ((at : ℕ) → IsErrOf {T = Tree} (Err f) (faults.Unclosed at) → IsUnclosedAt bytes at)
    → is_of_bytes f ≡ true → IsFaultOf bytes f
fault_read bytes faults.Long long no_utf8 no_text stray deep unclosed of = long.0 refl
fault_read bytes (faults.NotUtf8 at) long no_utf8 no_text stray deep unclosed of = let (short, none, valid) = no_utf8 at refl in (short, valid)
fault_read bytes (faults.Stray at) long no_utf8 no_text stray deep unclosed of = (short_text bytes (faults.Stray at) refl refl long no_text, stray at refl)
fault_read bytes (faults.Deep at) long no_utf8 no_text stray deep unclosed of = (short_text bytes (faults.Deep at) refl refl long no_text, deep at refl)
fault_read bytes (faults.Unclosed at) long no_utf8 no_text stray deep unclosed of = (short_text bytes (faults.Unclosed at) refl refl long no_text, unclosed at refl)
fault_read bytes faults.Memory long no_utf8 no_text stray deep unclosed of = absurd (grind (arith, of))
