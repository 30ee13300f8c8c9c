-- What the state of a reader at a place of a text implies about the text.
use Rattle.std.proofs.Common.{◌≡◌, ◌↔◌, ℕ, ◌+◌, ◌<◌, ◌≤◌, List, [], ◌∷◌, ◌++◌, length, take, drop, get_or, add-zero, refl, sym, ◌∙◌, ap, subst, arith, append_assoc, append-nil, length-drop, length-append, encode_utf8}
use Rattle.std.proofs.Math.Seq.{take-add, take-append_seam, drop-append_seam}
use Rattle.std.proofs.lemmas.List.{take-append-le, take-append-drop, drop-drop, get_or-drop}
use Rattle.std.proofs.lemmas.Str.{length-encode, len_utf8_bounds}
use Rattle.jac_tree.specs.declared.fault.TreeFault.{TreeFault}
use Rattle.jac_tree.specs.declared.fault.TreeFault.TheVariants as faults
use Rattle.jac_tree.specs.declared.read.Mode.{Mode}
use Rattle.jac_tree.specs.Grammar.{Spells, IsBegunWithin, IsStrayAt, IsDeepAt}
use Rattle.jac_tree.specs.Plain.{PlainTree, PlainTrees, nesting}
use Rattle.jac_tree.specs.Reading.{Completes, StepsReader, FaultsFor, HasFault, IsShallow}
use Rattle.jac_tree.proofs.States.{can_end}

-- The reader has read the first `at` bytes of the text.
abbrev pub Reading : List PlainTrees → Mode → List ℕ → ℕ → Type 0
Reading gs mode text at = (rest : List ℕ) (t : PlainTree) → Completes gs mode rest t ↔ Spells (take at text ++ rest) t

-- The place moves past the bytes `p`.
pub past : (text p q : List ℕ) (at : ℕ) → drop at text ≡ p ++ q → drop (at + length p) text ≡ q
past text p q at e = sym (drop-drop (length p) at text) ∙ ap (drop (length p)) e ∙ drop-append_seam p q

pub upto : (text p q : List ℕ) (at : ℕ) → drop at text ≡ p ++ q → take (at + length p) text ≡ take at text ++ p
upto text p q at e = take-add at (length p) text ∙ ap (λ z. take at text ++ z) (ap (take (length p)) e ∙ take-append_seam p q)

pub past_within : (text p q : List ℕ) (at : ℕ) → at ≤ length text → drop at text ≡ p ++ q → at + length p ≤ length text
past_within text p q at n e = omega (arith, ap length e, length-drop at text, length-append p q)

pub reading_step : (gs hs : List PlainTrees) (mode next : Mode) (text p q : List ℕ) (at : ℕ) → drop at text ≡ p ++ q
    → Reading gs mode text at → StepsReader gs mode p hs next → Reading hs next text (at + length p)
reading_step gs hs mode next text p q at e r s rest t =
    let one = r (p ++ rest) t in
    let two = s rest t in
    let same : take at text ++ (p ++ rest) ≡ take (at + length p) text ++ rest = sym (append_assoc (take at text) p rest) ∙ ap (λ z. z ++ rest) (sym (upto text p q at e)) in (
      λ h. subst (λ z. Spells z t) same (one.0 (two.1 h)),
      λ h. two.0 (one.1 (subst (λ z. Spells z t) (sym same) h)),
    )

-- The same, with the length given as a number.
pub reading_step_by : (gs hs : List PlainTrees) (mode next : Mode) (text p q : List ℕ) (at n : ℕ) → n ≡ length p → drop at text ≡ p ++ q
    → Reading gs mode text at → StepsReader gs mode p hs next → Reading hs next text (at + n)
reading_step_by gs hs mode next text p q at n m e r s =
    subst (λ z. Reading hs next text (at + z)) (sym m) (reading_step gs hs mode next text p q at e r s)

pub past_by : (text p q : List ℕ) (at n : ℕ) → n ≡ length p → drop at text ≡ p ++ q → q ≡ drop (at + n) text
past_by text p q at n m e = sym (ap (λ z. drop (at + z) text) m ∙ past text p q at e)

-- A character has at least one byte.
some_byte : (c : ℕ) → 1 ≤ length (encode_utf8 c)
some_byte c = omega (arith, length-encode c, (len_utf8_bounds c).0)

next_byte : (text q : List ℕ) (c at : ℕ) → drop at text ≡ encode_utf8 c ++ q → take (at + 1) text ≡ take at text ++ take 1 (encode_utf8 c)
next_byte text q c at e =
    let n = some_byte c in
    take-add at 1 text ∙ ap (λ z. take at text ++ z) (ap (take 1) e ∙ take-append-le 1 (encode_utf8 c) q n)

next_spells : (text q rest : List ℕ) (c at : ℕ) → drop at text ≡ encode_utf8 c ++ q
    → take (at + 1) text ++ rest ≡ take at text ++ (take 1 (encode_utf8 c) ++ rest)
next_spells text q rest c at e = ap (λ z. z ++ rest) (next_byte text q c at e) ∙ append_assoc (take at text) (take 1 (encode_utf8 c)) rest

first_is : (xs q : List ℕ) (b : ℕ) → take 1 xs ≡ b ∷ [] → get_or (xs ++ q) 0 0 ≡ b
first_is [] q b o = cc
first_is (x ∷ xs) q b o = cc

next_is : (text q : List ℕ) (c at b : ℕ) → drop at text ≡ encode_utf8 c ++ q → take 1 (encode_utf8 c) ≡ b ∷ [] → get_or text at 0 ≡ b
next_is text q c at b e o =
    let n : get_or (drop at text) 0 0 ≡ get_or text (at + 0) 0 = get_or-drop at text 0 0 in
    let m : get_or text (at + 0) 0 ≡ get_or text at 0 = ap (λ z. get_or text z 0) (add-zero at) in
    sym (n ∙ m) ∙ ap (λ z. get_or z 0 0) e ∙ first_is (encode_utf8 c) q b o

begun : (gs : List PlainTrees) (mode : Mode) (text : List ℕ) (at : ℕ) → Reading gs mode text at → IsShallow gs mode → IsBegunWithin 64 (take at text)
begun gs mode text at r s = let (rest, t, h, n) = can_end gs mode s in (rest, t, (r rest t).0 h, n)

next_within : (text q : List ℕ) (c at : ℕ) → at ≤ length text → drop at text ≡ encode_utf8 c ++ q → at < length text
next_within text q c at n e =
    let m = past_within text (encode_utf8 c) q at n e in
    let k = some_byte c in
    omega arith

pub step_fault : (gs : List PlainTrees) (mode : Mode) (text q : List ℕ) (c at : ℕ) (fault : TreeFault)
    → at ≤ length text → drop at text ≡ encode_utf8 c ++ q → Reading gs mode text at → IsShallow gs mode
    → FaultsFor gs mode (encode_utf8 c) at fault → HasFault text fault
step_fault gs mode text q c at faults.Memory n e r s f = tt
step_fault gs mode text q c at (faults.Stray m) n e r s (same, f) =
    subst (λ z. IsStrayAt text z) (sym same) (record {
      within = next_within text q c at n e;
      before = begun gs mode text at r s;
      after = λ (rest, t, h). f rest t ((r (take 1 (encode_utf8 c) ++ rest) t).1 (subst (λ z. Spells z t) (next_spells text q rest c at e) h));
    })
step_fault gs mode text q c at (faults.Deep m) n e r s (same, (o, (rest, t, h), f)) =
    subst (λ z. IsDeepAt text z) (sym same) (record {
      within = next_within text q c at n e;
      opens = next_is text q c at 40 e o;
      before = begun gs mode text at r s;
      after = (rest, t, subst (λ z. Spells z t) (sym (next_spells text q rest c at e)) ((r (take 1 (encode_utf8 c) ++ rest) t).0 h));
      deeper = λ (rs, u, i, k).
          let d : 64 < nesting u = f rs u ((r (take 1 (encode_utf8 c) ++ rs) u).1 (subst (λ z. Spells z u) (next_spells text q rs c at e) i)) in
          omega arith;
    })
step_fault gs mode text q c at faults.Long n e r s f = f
step_fault gs mode text q c at (faults.NotUtf8 m) n e r s f = f
step_fault gs mode text q c at (faults.Unclosed m) n e r s f = absurd f

-- If no byte is left, the place is the length of the text.
at_end : (text : List ℕ) (at : ℕ) → at ≤ length text → drop at text ≡ [] → at ≡ length text
at_end text at n e = omega (arith, ap length e, length-drop at text)

whole : (text : List ℕ) (at : ℕ) → drop at text ≡ [] → take at text ≡ text
whole text at e = sym (append-nil (take at text)) ∙ ap (λ z. take at text ++ z) (sym e) ∙ take-append-drop at text

pub reads_end : (gs : List PlainTrees) (mode : Mode) (text : List ℕ) (at : ℕ) (t : PlainTree) → drop at text ≡ [] → Reading gs mode text at
    → Spells text t ↔ Completes gs mode [] t
reads_end gs mode text at t e r =
    let same : take at text ++ [] ≡ text = append-nil (take at text) ∙ whole text at e in
    let one = r [] t in
    (λ h. one.1 (subst (λ z. Spells z t) (sym same) h), λ h. subst (λ z. Spells z t) same (one.0 h))

pub end_fault : (gs : List PlainTrees) (mode : Mode) (text : List ℕ) (at : ℕ) (fault : TreeFault)
    → at ≤ length text → drop at text ≡ [] → Reading gs mode text at → IsShallow gs mode
    → fault ≡ faults.Unclosed at → ((t : PlainTree) → ¬ (Completes gs mode [] t)) → HasFault text fault
end_fault gs mode text at fault n e r s same f =
    subst (λ z. HasFault text z) (sym same) (record {
      at_end = at_end text at n e;
      begun = subst (λ z. IsBegunWithin 64 z) (whole text at e) (begun gs mode text at r s);
      none = λ t h. f t ((reads_end gs mode text at t e r).0 h);
    })

-- A text that spells a tree has no fault.
begins_with : (bytes : List ℕ) (at : ℕ) (t : PlainTree) → Spells bytes t → Spells (take at bytes ++ drop at bytes) t
begins_with bytes at t h = subst (λ z. Spells z t) (sym (take-append-drop at bytes)) h

pub no_fault : (bytes : List ℕ) (t : PlainTree) (fault : TreeFault) → Spells bytes t → nesting t ≤ 64 → HasFault bytes fault → fault ≡ faults.Memory
no_fault bytes t faults.Memory h n f = refl
no_fault bytes t (faults.Stray at) h n f = absurd (f.after (drop (at + 1) bytes, t, begins_with bytes (at + 1) t h))
no_fault bytes t (faults.Deep at) h n f = absurd (f.deeper (drop (at + 1) bytes, t, begins_with bytes (at + 1) t h, n))
no_fault bytes t (faults.Unclosed at) h n f = absurd (f.none t h)
no_fault bytes t faults.Long h n f = absurd f
no_fault bytes t (faults.NotUtf8 at) h n f = absurd f
