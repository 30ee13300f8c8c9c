-- Bytes spell one tree, or have one fault.
use Rattle.std.proofs.Common.{◌≡◌, ◌<◌, ◌≤◌, ◌+◌, ◌⊎◌, inl, inr, ℕ, zero, suc, List, [], ◌∷◌, ◌++◌, length, take, refl, sym, ◌∙◌, ap, subst, arith, append-nil}
use Rattle.std.proofs.lemmas.Bool.{cases_lt}
use Rattle.std.proofs.lemmas.List.{take_all}
use Rattle.std.specs.Str.{IsUtf8, IsValidUpTo}
use Rattle.jac_tree.specs.Faults.{IsFaultOf}
use Rattle.jac_tree.specs.Grammar.{Accepted, Spells, IsBegunDocument, IsBegunWithin, IsStrayAt, IsDeepAt, IsUnclosedAt}
use Rattle.jac_tree.specs.Plain.{PlainTree, nesting}
use Rattle.jac_tree.specs.declared.fault.TreeFault.{TreeFault}
use Rattle.jac_tree.specs.declared.fault.TreeFault.TheVariants as faults

-- If a longer prefix can be continued, so can a shorter one.
front : (b a : ℕ) (bytes rest : List ℕ) → b ≤ a → (more : List ℕ) × (take b bytes ++ more ≡ take a bytes ++ rest)
front zero a bytes rest less = (take a bytes ++ rest, refl)
front (suc b) zero bytes rest less = absurd (omega arith)
front (suc b) (suc a) [] rest less = (rest, refl)
front (suc b) (suc a) (x ∷ bytes) rest less =
    let (more, e) = front b a bytes rest (omega arith) in (more, ap (λ (xs : List ℕ). x ∷ xs) e)

sooner : (n b a : ℕ) (bytes : List ℕ) → b ≤ a → IsBegunWithin n (take a bytes) → IsBegunWithin n (take b bytes)
sooner n b a bytes less (rest, t, spelled, shallow) =
    let (more, e) = front b a bytes rest less in
    (more, t, subst (λ (z : List ℕ). Spells z t) (sym e) spelled, shallow)

-- Each prefix of bytes that spell a tree begins a document.
of_spelled : (bytes : List ℕ) (t : PlainTree) (b : ℕ) → Spells bytes t → nesting t ≤ 64 → IsBegunWithin 64 (take b bytes)
of_spelled bytes t b spelled shallow =
    sooner_whole (cases_lt b (length bytes))
  where
    all : take (length bytes) bytes ≡ bytes
    all = take_all (length bytes) bytes (omega arith)

    whole : IsBegunWithin 64 bytes
    whole = ([], t, subst (λ (z : List ℕ). Spells z t) (sym (append-nil bytes)) spelled, shallow)

    sooner_whole : (b < length bytes) ⊎ (length bytes ≤ b) → IsBegunWithin 64 (take b bytes)
    sooner_whole (inl less) = sooner 64 b (length bytes) bytes (omega (arith, less)) (subst (λ (z : List ℕ). IsBegunWithin 64 z) (sym all) whole)
    sooner_whole (inr more) = subst (λ (z : List ℕ). IsBegunWithin 64 z) (sym (take_all b bytes more)) whole

begun : (n : ℕ) (bytes : List ℕ) → IsBegunWithin n bytes → IsBegunDocument bytes
begun n bytes (rest, t, spelled, shallow) = (rest, t, spelled)

no_valid_front : (bytes : List ℕ) (at : ℕ) → IsUtf8 bytes → IsValidUpTo bytes at → ⊥
no_valid_front bytes at text valid =
    valid.longest (length bytes) valid.short (subst IsUtf8 (sym (take_all (length bytes) bytes (omega arith))) text)

-- Bytes that are accepted as a tree have no fault.
pub no_fault : (bytes : List ℕ) (t : PlainTree) (f : TreeFault) → Accepted bytes t → IsFaultOf bytes f → ⊥
no_fault bytes t faults.Long a h = omega (arith, a.short, h)
no_fault bytes t (faults.NotUtf8 at) a (short, valid) = no_valid_front bytes at a.utf8 valid
no_fault bytes t (faults.Stray at) a (short, stray) = stray.after (begun 64 (take (at + 1) bytes) (of_spelled bytes t (at + 1) a.spelled a.shallow))
no_fault bytes t (faults.Deep at) a (short, deep) = deep.deeper (of_spelled bytes t (at + 1) a.spelled a.shallow)
no_fault bytes t (faults.Unclosed at) a (short, unclosed) = unclosed.none t a.spelled
no_fault bytes t faults.Memory a h = h

-- The place from which no document of at most 64 levels continues.
record StopsAt (bytes : List ℕ) (at : ℕ) : Type 0 where
  pub before : IsBegunWithin 64 (take at bytes)
  pub after : at < length bytes → ¬ (IsBegunWithin 64 (take (at + 1) bytes))
  pub within : at ≤ length bytes

not_before : (bytes : List ℕ) (a b : ℕ) → StopsAt bytes a → StopsAt bytes b → ¬ (a < b)
not_before bytes a b h k less =
    let n = k.within in
    h.after (omega (arith, less, n)) (sooner 64 (a + 1) b bytes (omega (arith, less)) k.before)

one_stop : (bytes : List ℕ) (a b : ℕ) → StopsAt bytes a → StopsAt bytes b → a ≡ b
one_stop bytes a b h k =
    let n = not_before bytes a b h k in
    let m = not_before bytes b a k h in
    split (cases_lt a b) (cases_lt b a) n m
  where
    split : (a < b) ⊎ (b ≤ a) → (b < a) ⊎ (a ≤ b) → ¬ (a < b) → ¬ (b < a) → a ≡ b
    split (inl less) y n m = absurd (n less)
    split (inr x) (inl less) n m = absurd (m less)
    split (inr x) (inr y) n m = omega (arith, x, y)

stray_stops : (bytes : List ℕ) (at : ℕ) → IsStrayAt bytes at → StopsAt bytes at
stray_stops bytes at s = let n = s.within in record { before = s.before; after = λ less h. s.after (begun 64 (take (at + 1) bytes) h); within = omega (arith, n) }

deep_stops : (bytes : List ℕ) (at : ℕ) → IsDeepAt bytes at → StopsAt bytes at
deep_stops bytes at d = let n = d.within in record { before = d.before; after = λ less. d.deeper; within = omega (arith, n) }

unclosed_stops : (bytes : List ℕ) (at : ℕ) → IsUnclosedAt bytes at → StopsAt bytes at
unclosed_stops bytes at u =
    let n = u.at_end in
    record {
      before = subst (λ (z : List ℕ). IsBegunWithin 64 z) (sym (take_all at bytes (omega (arith, n)))) u.begun;
      after = λ less. absurd (omega (arith, n, less));
      within = omega (arith, n);
    }

stray_not_deep : (bytes : List ℕ) (a b : ℕ) → IsStrayAt bytes a → IsDeepAt bytes b → ⊥
stray_not_deep bytes a b s d =
    let same = one_stop bytes a b (stray_stops bytes a s) (deep_stops bytes b d) in
    s.after (subst (λ n. IsBegunDocument (take (n + 1) bytes)) (sym same) d.after)

stray_not_unclosed : (bytes : List ℕ) (a b : ℕ) → IsStrayAt bytes a → IsUnclosedAt bytes b → ⊥
stray_not_unclosed bytes a b s u =
    let same = one_stop bytes a b (stray_stops bytes a s) (unclosed_stops bytes b u) in
    let n = s.within in let m = u.at_end in omega (arith, same, n, m)

deep_not_unclosed : (bytes : List ℕ) (a b : ℕ) → IsDeepAt bytes a → IsUnclosedAt bytes b → ⊥
deep_not_unclosed bytes a b d u =
    let same = one_stop bytes a b (deep_stops bytes a d) (unclosed_stops bytes b u) in
    let n = d.within in let m = u.at_end in omega (arith, same, n, m)

valid_not_before : (bytes : List ℕ) (a b : ℕ) → IsValidUpTo bytes a → IsValidUpTo bytes b → ¬ (a < b)
valid_not_before bytes a b h k less = h.longest b less k.front

valid_one : (bytes : List ℕ) (a b : ℕ) → IsValidUpTo bytes a → IsValidUpTo bytes b → a ≡ b
valid_one bytes a b h k = split (cases_lt a b) (cases_lt b a) (valid_not_before bytes a b h k) (valid_not_before bytes b a k h)
  where
    split : (a < b) ⊎ (b ≤ a) → (b < a) ⊎ (a ≤ b) → ¬ (a < b) → ¬ (b < a) → a ≡ b
    split (inl less) y n m = absurd (n less)
    split (inr x) (inl less) n m = absurd (m less)
    split (inr x) (inr y) n m = omega (arith, x, y)

pub one_fault : (bytes : List ℕ) (f g : TreeFault) → IsFaultOf bytes f → IsFaultOf bytes g → f ≡ g
one_fault bytes faults.Long faults.Long h k = refl
one_fault bytes faults.Long (faults.NotUtf8 b) h (short, k) = absurd (omega (arith, h, short))
one_fault bytes faults.Long (faults.Stray b) h ((short, text), k) = absurd (omega (arith, h, short))
one_fault bytes faults.Long (faults.Deep b) h ((short, text), k) = absurd (omega (arith, h, short))
one_fault bytes faults.Long (faults.Unclosed b) h ((short, text), k) = absurd (omega (arith, h, short))
one_fault bytes faults.Long faults.Memory h k = absurd k
one_fault bytes (faults.NotUtf8 a) faults.Long (short, h) k = absurd (omega (arith, k, short))
one_fault bytes (faults.NotUtf8 a) (faults.NotUtf8 b) (short, h) (less, k) = ap (λ (n : ℕ). faults.NotUtf8 n) (valid_one bytes a b h k)
one_fault bytes (faults.NotUtf8 a) (faults.Stray b) (short, h) ((less, text), k) = absurd (no_valid_front bytes a text h)
one_fault bytes (faults.NotUtf8 a) (faults.Deep b) (short, h) ((less, text), k) = absurd (no_valid_front bytes a text h)
one_fault bytes (faults.NotUtf8 a) (faults.Unclosed b) (short, h) ((less, text), k) = absurd (no_valid_front bytes a text h)
one_fault bytes (faults.NotUtf8 a) faults.Memory h k = absurd k
one_fault bytes (faults.Stray a) faults.Long ((short, text), h) k = absurd (omega (arith, k, short))
one_fault bytes (faults.Stray a) (faults.NotUtf8 b) ((short, text), h) (less, k) = absurd (no_valid_front bytes b text k)
one_fault bytes (faults.Stray a) (faults.Stray b) (short, h) (less, k) = ap (λ (n : ℕ). faults.Stray n) (one_stop bytes a b (stray_stops bytes a h) (stray_stops bytes b k))
one_fault bytes (faults.Stray a) (faults.Deep b) (short, h) (less, k) = absurd (stray_not_deep bytes a b h k)
one_fault bytes (faults.Stray a) (faults.Unclosed b) (short, h) (less, k) = absurd (stray_not_unclosed bytes a b h k)
one_fault bytes (faults.Stray a) faults.Memory h k = absurd k
one_fault bytes (faults.Deep a) faults.Long ((short, text), h) k = absurd (omega (arith, k, short))
one_fault bytes (faults.Deep a) (faults.NotUtf8 b) ((short, text), h) (less, k) = absurd (no_valid_front bytes b text k)
one_fault bytes (faults.Deep a) (faults.Stray b) (short, h) (less, k) = absurd (stray_not_deep bytes b a k h)
one_fault bytes (faults.Deep a) (faults.Deep b) (short, h) (less, k) = ap (λ (n : ℕ). faults.Deep n) (one_stop bytes a b (deep_stops bytes a h) (deep_stops bytes b k))
one_fault bytes (faults.Deep a) (faults.Unclosed b) (short, h) (less, k) = absurd (deep_not_unclosed bytes a b h k)
one_fault bytes (faults.Deep a) faults.Memory h k = absurd k
one_fault bytes (faults.Unclosed a) faults.Long ((short, text), h) k = absurd (omega (arith, k, short))
one_fault bytes (faults.Unclosed a) (faults.NotUtf8 b) ((short, text), h) (less, k) = absurd (no_valid_front bytes b text k)
one_fault bytes (faults.Unclosed a) (faults.Stray b) (short, h) (less, k) = absurd (stray_not_unclosed bytes b a k h)
one_fault bytes (faults.Unclosed a) (faults.Deep b) (short, h) (less, k) = absurd (deep_not_unclosed bytes b a k h)
one_fault bytes (faults.Unclosed a) (faults.Unclosed b) (short, h) (less, k) = ap (λ (n : ℕ). faults.Unclosed n) (h.at_end ∙ sym k.at_end)
one_fault bytes (faults.Unclosed a) faults.Memory h k = absurd k
one_fault bytes faults.Memory g h k = absurd h
