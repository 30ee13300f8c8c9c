-- Bytes have at most one fault.
use Rattle.std.proofs.Common.{◌≡◌, ◌⊎◌, inl, inr, ℕ, ◌+◌, ◌<◌, ◌≤◌, List, ◌++◌, length, take, drop, refl, sym, ◌∙◌, ap, subst, arith, append_assoc, IsUtf8}
use Rattle.std.proofs.Math.Seq.{take-length}
use Rattle.std.proofs.lemmas.Bool.{cases_lt}
use Rattle.std.proofs.lemmas.List.{take-take, take-append-drop}
use Rattle.std.proofs.lemmas.Str.{utf8_valid_len-IsValidUpTo}
use Rattle.std.specs.Str.{IsValidUpTo}
use Rattle.jac_tree.specs.declared.fault.TreeFault.{TreeFault}
use Rattle.jac_tree.specs.declared.fault.TreeFault.TheVariants as faults
use Rattle.jac_tree.specs.Faults.{IsFaultOf}
use Rattle.jac_tree.specs.Grammar.{Spells, IsBegunDocument, IsBegunWithin, IsStrayAt, IsDeepAt, IsUnclosedAt}
use Rattle.jac_tree.specs.Plain.{PlainTree, nesting}
use Rattle.jac_tree.specs.Reading.{HasFault}

-- A shorter prefix of the bytes, followed by the rest of the longer prefix, is the longer prefix.
shorter : (bytes rest : List ℕ) (m n : ℕ) → m ≤ n → take m bytes ++ (drop m (take n bytes) ++ rest) ≡ take n bytes ++ rest
shorter bytes rest m n h =
    sym (append_assoc (take m bytes) (drop m (take n bytes)) rest)
    ∙ ap (λ z. z ++ rest) (ap (λ z. z ++ drop m (take n bytes)) (sym (take-take m n bytes h)) ∙ take-append-drop m (take n bytes))

begun_less : (bytes : List ℕ) (m n : ℕ) → m ≤ n → IsBegunDocument (take n bytes) → IsBegunDocument (take m bytes)
begun_less bytes m n h (rest, t, s) = (drop m (take n bytes) ++ rest, t, subst (λ z. Spells z t) (sym (shorter bytes rest m n h)) s)

within_less : (bytes : List ℕ) (m n : ℕ) → m ≤ n → IsBegunWithin 64 (take n bytes) → IsBegunWithin 64 (take m bytes)
within_less bytes m n h (rest, t, s, k) = (drop m (take n bytes) ++ rest, t, subst (λ z. Spells z t) (sym (shorter bytes rest m n h)) s, k)

any_begun : (bytes : List ℕ) → IsBegunWithin 64 bytes → IsBegunDocument bytes
any_begun bytes (rest, t, s, k) = (rest, t, s)

whole : (bytes : List ℕ) → IsBegunWithin 64 bytes → IsBegunWithin 64 (take (length bytes) bytes)
whole bytes h = subst (λ z. IsBegunWithin 64 z) (sym (take-length bytes)) h

-- The place of the first byte that fails is unique.
same_place : (bytes : List ℕ) (m n : ℕ) → IsBegunWithin 64 (take m bytes) → IsBegunWithin 64 (take n bytes)
    → ¬ (IsBegunWithin 64 (take (m + 1) bytes)) → ¬ (IsBegunWithin 64 (take (n + 1) bytes)) → m ≡ n
same_place bytes m n h k p q = elim (cases_lt m n) [
  | inl low ↦ absurd (p (within_less bytes (m + 1) n (omega arith) k))
  | inr high ↦ elim (cases_lt n m) [
    | inl low ↦ absurd (q (within_less bytes (n + 1) m (omega arith) h))
    | inr more ↦ omega arith
  ]
]

stray_within : (bytes : List ℕ) (at : ℕ) → IsStrayAt bytes at → ¬ (IsBegunWithin 64 (take (at + 1) bytes))
stray_within bytes at f h = f.after (any_begun (take (at + 1) bytes) h)

no_end : (bytes : List ℕ) (at end : ℕ) → at < length bytes → ¬ (IsBegunWithin 64 (take (at + 1) bytes)) → IsUnclosedAt bytes end → ⊥
no_end bytes at end n p u = p (within_less bytes (at + 1) (length bytes) (omega arith) (whole bytes u.begun))

stray_not_deep : (bytes : List ℕ) (m n : ℕ) → IsStrayAt bytes m → IsDeepAt bytes n → ⊥
stray_not_deep bytes m n s d =
    let e = same_place bytes m n s.before d.before (stray_within bytes m s) d.deeper in
    s.after (subst (λ z. IsBegunDocument (take (z + 1) bytes)) (sym e) d.after)

text_is_valid : (bytes : List ℕ) (at : ℕ) → IsUtf8 bytes → IsValidUpTo bytes at → ⊥
text_is_valid bytes at u v = v.longest (length bytes) v.short (subst IsUtf8 (sym (take-length bytes)) u)

pub one_fault : (bytes : List ℕ) (e fault : TreeFault) → length bytes ≤ 1048576 → IsUtf8 bytes → HasFault bytes e → IsFaultOf bytes fault → (e ≡ fault) ⊎ (e ≡ faults.Memory)
one_fault bytes faults.Memory fault n u h f = inr refl
one_fault bytes faults.Long fault n u h f = absurd h
one_fault bytes (faults.NotUtf8 m) fault n u h f = absurd h
one_fault bytes (faults.Stray m) faults.Memory n u h f = absurd f
one_fault bytes (faults.Stray m) faults.Long n u h f = absurd (omega arith)
one_fault bytes (faults.Stray m) (faults.NotUtf8 k) n u h f = absurd (text_is_valid bytes k u f.1)
one_fault bytes (faults.Stray m) (faults.Stray k) n u h f = inl (ap faults.Stray (same_place bytes m k h.before f.1.before (stray_within bytes m h) (stray_within bytes k f.1)))
one_fault bytes (faults.Stray m) (faults.Deep k) n u h f = absurd (stray_not_deep bytes m k h f.1)
one_fault bytes (faults.Stray m) (faults.Unclosed k) n u h f = absurd (no_end bytes m k h.within (stray_within bytes m h) f.1)
one_fault bytes (faults.Deep m) faults.Memory n u h f = absurd f
one_fault bytes (faults.Deep m) faults.Long n u h f = absurd (omega arith)
one_fault bytes (faults.Deep m) (faults.NotUtf8 k) n u h f = absurd (text_is_valid bytes k u f.1)
one_fault bytes (faults.Deep m) (faults.Stray k) n u h f = absurd (stray_not_deep bytes k m f.1 h)
one_fault bytes (faults.Deep m) (faults.Deep k) n u h f = inl (ap faults.Deep (same_place bytes m k h.before f.1.before h.deeper f.1.deeper))
one_fault bytes (faults.Deep m) (faults.Unclosed k) n u h f = absurd (no_end bytes m k h.within h.deeper f.1)
one_fault bytes (faults.Unclosed m) faults.Memory n u h f = absurd f
one_fault bytes (faults.Unclosed m) faults.Long n u h f = absurd (omega arith)
one_fault bytes (faults.Unclosed m) (faults.NotUtf8 k) n u h f = absurd (text_is_valid bytes k u f.1)
one_fault bytes (faults.Unclosed m) (faults.Stray k) n u h f = absurd (no_end bytes k m f.1.within (stray_within bytes k f.1) h)
one_fault bytes (faults.Unclosed m) (faults.Deep k) n u h f = absurd (no_end bytes k m f.1.within f.1.deeper h)
one_fault bytes (faults.Unclosed m) (faults.Unclosed k) n u h f = inl (ap faults.Unclosed (h.at_end ∙ sym f.1.at_end))

-- A text that spells a tree of at most 64 levels has no fault.
pub faultless : (bytes : List ℕ) (t : PlainTree) (fault : TreeFault) → length bytes ≤ 1048576 → IsUtf8 bytes → Spells bytes t → nesting t ≤ 64 → IsFaultOf bytes fault → ⊥
faultless bytes t faults.Memory n u s k f = f
faultless bytes t faults.Long n u s k f = omega arith
faultless bytes t (faults.NotUtf8 m) n u s k f = text_is_valid bytes m u f.1
faultless bytes t (faults.Stray m) n u s k f = f.1.after (drop (m + 1) bytes, t, subst (λ z. Spells z t) (sym (take-append-drop (m + 1) bytes)) s)
faultless bytes t (faults.Deep m) n u s k f = f.1.deeper (drop (m + 1) bytes, t, subst (λ z. Spells z t) (sym (take-append-drop (m + 1) bytes)) s, k)
faultless bytes t (faults.Unclosed m) n u s k f = f.1.none t s

-- The two faults that are found before a tree is read: the length, and the encoding.
pub long_fault : (bytes : List ℕ) (fault : TreeFault) → 1048576 < length bytes → IsFaultOf bytes fault → faults.Long ≡ fault
long_fault bytes faults.Long n f = refl
long_fault bytes faults.Memory n f = absurd f
long_fault bytes (faults.NotUtf8 m) n (k, f) = absurd (omega arith)
long_fault bytes (faults.Stray m) n ((k, u), f) = absurd (omega arith)
long_fault bytes (faults.Deep m) n ((k, u), f) = absurd (omega arith)
long_fault bytes (faults.Unclosed m) n ((k, u), f) = absurd (omega arith)

pub encoding_fault : (bytes : List ℕ) (at : ℕ) (fault : TreeFault) → length bytes ≤ 1048576 → ¬ (IsUtf8 bytes) → IsValidUpTo bytes at → IsFaultOf bytes fault → faults.NotUtf8 at ≡ fault
encoding_fault bytes at faults.Long n p v f = absurd (omega arith)
encoding_fault bytes at faults.Memory n p v f = absurd f
encoding_fault bytes at (faults.NotUtf8 m) n p v (k, f) = ap faults.NotUtf8 (sym (utf8_valid_len-IsValidUpTo bytes at v) ∙ utf8_valid_len-IsValidUpTo bytes m f)
encoding_fault bytes at (faults.Stray m) n p v ((k, u), f) = absurd (p u)
encoding_fault bytes at (faults.Deep m) n p v ((k, u), f) = absurd (p u)
encoding_fault bytes at (faults.Unclosed m) n p v ((k, u), f) = absurd (p u)
