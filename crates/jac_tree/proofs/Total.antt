-- Each text spells a tree or has a fault. The proof runs a reader of bytes, which takes no memory.
use Rattle.std.proofs.Common.{◌≡◌, ◌≢◌, ◌↔◌, ◌⊎◌, inl, inr, ℕ, ◌+◌, ◌<◌, ◌≤◌, Bool, true, false, List, [], ◌∷◌, ◌++◌, length, take, drop, get_or, Option, Some, None, refl, sym, ◌∙◌, ap, subst, arith, add-zero, append_assoc, if◌then◌else◌, append-nil, length-append, max}
use Rattle.std.proofs.Math.Seq.{take-append_seam, drop-append_seam}
use Rattle.std.proofs.lemmas.Bool.{cases_lt}
use Rattle.std.proofs.lemmas.List.{get_or-drop}
use Rattle.jac_tree.specs.declared.fault.TreeFault.{TreeFault}
use Rattle.jac_tree.specs.declared.fault.TreeFault.TheVariants as faults
use Rattle.jac_tree.specs.Faults.{IsShortText, IsFaultOf}
use Rattle.jac_tree.specs.Grammar.{is_white, skip, escape_meaning, TreeAt, Spells, Accepted, IsBegunWithin, IsStrayAt, IsDeepAt}
use Rattle.jac_value.specs.Names.{is_atom_byte}
use Rattle.jac_tree.specs.Plain.{PlainTree, PlainTrees, onto, nesting, nesting_all}
use Rattle.jac_tree.specs.Plain.PlainTree.{atom, text, list}
use Rattle.jac_tree.specs.Plain.PlainTrees.{none, more}
use Rattle.jac_tree.specs.Reading.{After, Between, InsideAtom, InsideText, AreShallow}
use Rattle.jac_tree.proofs.Moves.{nesting-onto, between_white, between_item, item_text, item_atom, item_none, between_end, between_no_end, atom_more, atom_end, text_end, text_plain, text_escape, text_no_escape, complete_white, complete_other}
use Rattle.jac_tree.proofs.Bytes.{plain_other}
use Rattle.jac_tree.proofs.States.{chain, Ends, shallow_few, open_can_end, open_deep, atom_can_end, text_can_end, escape_can_end, opens, shallow_more, open_unfinished, text_unfinished, escape_unfinished, atom_unfinished}

-- The states of a reader of bytes.
data Spot : Type 0 where
  between : Spot
  whole : PlainTree → Spot
  in_atom : List ℕ → Spot
  in_text : List ℕ → Spot
  in_escape : List ℕ → Spot

-- The bytes complete the document of `t`.
abbrev Now : List PlainTrees → Spot → List ℕ → PlainTree → Type 0
Now gs between bytes t = Between gs bytes t
Now gs (whole u) bytes t = (skip bytes ≡ []) × (t ≡ u)
Now gs (in_atom a) bytes t = InsideAtom gs a bytes t
Now gs (in_text x) bytes t = InsideText gs x bytes t
Now gs (in_escape x) bytes t = InsideText gs x (92 ∷ bytes) t

-- The trees that were read nest at most 64 deep.
abbrev Low : List PlainTrees → Spot → Type 0
Low gs between = AreShallow gs
Low gs (whole u) = nesting u ≤ 64
Low gs (in_atom a) = AreShallow gs
Low gs (in_text x) = AreShallow gs
Low gs (in_escape x) = AreShallow gs

-- A document can be completed from each spot.
ends : (gs : List PlainTrees) (spot : Spot) → Low gs spot → Ends (Now gs spot)
ends gs between h = open_can_end gs h
ends gs (whole u) h = ([], u, (refl, refl), h)
ends gs (in_atom a) h = atom_can_end gs a h
ends gs (in_text x) h = text_can_end gs x h
ends gs (in_escape x) h = escape_can_end gs x h

-- The byte leads to another spot.
record Moved (gs : List PlainTrees) (spot : Spot) (b : ℕ) : Type 0 where
  lists : List PlainTrees
  next : Spot
  same : (rest : List ℕ) (t : PlainTree) → Now gs spot (b ∷ rest) t ↔ Now lists next rest t
  low : Low lists next

-- No document continues with the byte.
abbrev Stuck : List PlainTrees → Spot → ℕ → Type 0
Stuck gs spot b = (rest : List ℕ) (t : PlainTree) → ¬ (Now gs spot (b ∷ rest) t)

-- The byte opens a list inside 64 lists.
record Deepened (gs : List PlainTrees) (spot : Spot) (b : ℕ) : Type 0 where
  opening : b ≡ 40
  some : (rest : List ℕ) × (t : PlainTree) × Now gs spot (b ∷ rest) t
  deeper : (rest : List ℕ) (t : PlainTree) → Now gs spot (b ∷ rest) t → 64 < nesting t

abbrev Step : List PlainTrees → Spot → ℕ → Type 0
Step gs spot b = Moved gs spot b ⊎ (Stuck gs spot b ⊎ Deepened gs spot b)

-- A step from another spot from which the same bytes complete the same documents.
carried : (gs hs : List PlainTrees) (spot other : Spot) (b : ℕ)
    → ((rest : List ℕ) (t : PlainTree) → Now gs spot (b ∷ rest) t ↔ Now hs other (b ∷ rest) t) → Step hs other b → Step gs spot b
carried gs hs spot other b same (inl m) =
    inl (record { lists = m.lists; next = m.next; same = λ rest t. chain (same rest t) (m.same rest t); low = m.low })
carried gs hs spot other b same (inr (inl stuck)) = inr (inl (λ rest t h. stuck rest t ((same rest t).0 h)))
carried gs hs spot other b same (inr (inr d)) =
    let (rest, t, h) = d.some in
    inr (inr (record { opening = d.opening; some = (rest, t, (same rest t).1 h); deeper = λ r u k. d.deeper r u ((same r u).0 k) }))

-- The state of a reader after a tree ends.
record Settled (gs : List PlainTrees) (u : PlainTree) : Type 0 where
  lists : List PlainTrees
  complete : Bool
  same : (rest : List ℕ) (t : PlainTree) → After gs u rest t ↔ Now lists (if complete then whole u else between) rest t
  low : Low lists (if complete then whole u else between)

settled : (gs : List PlainTrees) (u : PlainTree) → AreShallow gs → nesting u + length gs ≤ 64 → Settled gs u
settled [] u h n = record { lists = []; complete = true; same = λ rest t. (λ k. k, λ k. k); low = omega arith }
settled (g ∷ gs) u h n = record { lists = more u g ∷ gs; complete = false; same = λ rest t. (λ k. k, λ k. k); low = shallow_more gs g u h n }

same_or_other : (m n : ℕ) → (m ≡ n) ⊎ (m ≢ n)
same_or_other m n = elim (cases_lt m n) [
  | inl low ↦ inr (λ e. omega arith)
  | inr high ↦ elim (cases_lt n m) [ inl low ↦ inr (λ e. omega arith) | inr least ↦ inl (omega arith) ]
]

-- A step outside of atoms and texts.
closing : (gs : List PlainTrees) → AreShallow gs → Step gs between 41
closing [] h = inr (inl (λ rest t k. between_no_end rest t k))
closing (g ∷ gs) (m, h) =
    let e : nesting_all (onto g none) ≡ max (nesting_all g) (nesting_all none) = nesting-onto g none in
    let n : nesting (list (onto g none)) + length gs ≤ 64 = omega arith in
    let s = settled gs (list (onto g none)) h n in
    inl (record {
      lists = s.lists;
      next = if s.complete then whole (list (onto g none)) else between;
      same = λ rest t. chain (between_end g gs rest t) (s.same rest t);
      low = s.low;
    })

opening_at : (gs : List PlainTrees) → AreShallow gs → Step gs between 40
opening_at gs h = elim (cases_lt (length gs) 64) [
  | inl few ↦ inl (record { lists = none ∷ gs; next = between; same = λ rest t. opens gs rest t; low = (omega arith, h) })
  | inr many ↦ let (o, s, d) = open_deep gs many in inr (inr (record { opening = refl; some = s; deeper = d }))
]

quote_at : (gs : List PlainTrees) → AreShallow gs → Step gs between 34
quote_at gs h = inl (record {
  lists = gs;
  next = in_text [];
  same = λ rest t. chain (between_item gs 34 rest t refl (λ e. omega arith)) (item_text gs rest t);
  low = h;
})

atom_at : (gs : List PlainTrees) (b : ℕ) (a : Bool) → is_atom_byte b ≡ a → AreShallow gs → is_white b ≡ false → b ≢ 41 → b ≢ 40 → b ≢ 34 → Step gs between b
atom_at gs b true a h w n m k = inl (record {
  lists = gs;
  next = in_atom (b ∷ []);
  same = λ rest t. chain (between_item gs b rest t w n) (item_atom gs b rest t a);
  low = h;
})
atom_at gs b false a h w n m k = inr (inl (λ rest t i. item_none gs b rest t k m a ((between_item gs b rest t w n).0 i)))

other_at : (gs : List PlainTrees) (b : ℕ) → AreShallow gs → is_white b ≡ false → Step gs between b
other_at gs b h w = elim (same_or_other b 41) [
  | inl e ↦ subst (λ z. Step gs between z) (sym e) (closing gs h)
  | inr n ↦ elim (same_or_other b 40) [
    | inl e ↦ subst (λ z. Step gs between z) (sym e) (opening_at gs h)
    | inr m ↦ elim (same_or_other b 34) [
      | inl e ↦ subst (λ z. Step gs between z) (sym e) (quote_at gs h)
      | inr k ↦ atom_at gs b (is_atom_byte b) refl h w n m k
    ]
  ]
]

open_step_by : (gs : List PlainTrees) (b : ℕ) (w : Bool) → is_white b ≡ w → AreShallow gs → Step gs between b
open_step_by gs b true w h = inl (record { lists = gs; next = between; same = λ rest t. between_white gs b rest t w; low = h })
open_step_by gs b false w h = other_at gs b h w

whole_step_by : (gs : List PlainTrees) (u : PlainTree) (b : ℕ) (w : Bool) → is_white b ≡ w → nesting u ≤ 64 → Step gs (whole u) b
whole_step_by gs u b true w h = inl (record {
  lists = gs;
  next = whole u;
  same = λ rest t. let one = complete_white b rest w in (λ k. (one.0 k.0, k.1), λ k. (one.1 k.0, k.1));
  low = h;
})
whole_step_by gs u b false w h = inr (inl (λ rest t k. complete_other b rest w k.0))

outside_step : (gs : List PlainTrees) (complete : Bool) (u : PlainTree) (b : ℕ) → Low gs (if complete then whole u else between) → Step gs (if complete then whole u else between) b
outside_step gs true u b h = whole_step_by gs u b (is_white b) refl h
outside_step gs false u b h = open_step_by gs b (is_white b) refl h

-- A step in an atom.
atom_step_by : (gs : List PlainTrees) (a : List ℕ) (b : ℕ) (w : Bool) → is_atom_byte b ≡ w → AreShallow gs → Step gs (in_atom a) b
atom_step_by gs a b true w h = inl (record { lists = gs; next = in_atom (a ++ b ∷ []); same = λ rest t. atom_more gs a b rest t w; low = h })
atom_step_by gs a b false w h =
    let n = shallow_few gs h in
    let s = settled gs (atom a) h (omega arith) in
    carried gs s.lists (in_atom a) (if s.complete then whole (atom a) else between) b
    (λ rest t. chain (atom_end gs a (b ∷ rest) t w) (s.same (b ∷ rest) t))
    (outside_step s.lists s.complete (atom a) b s.low)

-- A step in a text.
text_ends : (gs : List PlainTrees) (x : List ℕ) → AreShallow gs → Step gs (in_text x) 34
text_ends gs x h =
    let n = shallow_few gs h in
    let s = settled gs (text x) h (omega arith) in
    inl (record {
      lists = s.lists;
      next = if s.complete then whole (text x) else between;
      same = λ rest t. chain (text_end gs x rest t) (s.same rest t);
      low = s.low;
    })

text_step_at : (gs : List PlainTrees) (x : List ℕ) (b : ℕ) → AreShallow gs → Step gs (in_text x) b
text_step_at gs x b h = elim (same_or_other b 34) [
  | inl e ↦ subst (λ z. Step gs (in_text x) z) (sym e) (text_ends gs x h)
  | inr n ↦ elim (same_or_other b 92) [
    | inl e ↦ subst (λ z. Step gs (in_text x) z) (sym e) (inl (record { lists = gs; next = in_escape x; same = λ rest t. (λ k. k, λ k. k); low = h }))
    | inr m ↦ inl (record { lists = gs; next = in_text (x ++ b ∷ []); same = λ rest t. text_plain gs x b rest t (plain_other b n m); low = h })
  ]
]

escape_step_by : (gs : List PlainTrees) (x : List ℕ) (b : ℕ) (meant : Option ℕ) → escape_meaning b ≡ meant → AreShallow gs → Step gs (in_escape x) b
escape_step_by gs x b (Some c) w h = inl (record { lists = gs; next = in_text (x ++ c ∷ []); same = λ rest t. text_escape gs x b c rest t w; low = h })
escape_step_by gs x b None w h = inr (inl (λ rest t k. text_no_escape gs x b rest t w k))

step : (gs : List PlainTrees) (spot : Spot) (b : ℕ) → Low gs spot → Step gs spot b
step gs between b h = open_step_by gs b (is_white b) refl h
step gs (whole u) b h = whole_step_by gs u b (is_white b) refl h
step gs (in_atom a) b h = atom_step_by gs a b (is_atom_byte b) refl h
step gs (in_text x) b h = text_step_at gs x b h
step gs (in_escape x) b h = escape_step_by gs x b (escape_meaning b) refl h

-- At the end of the bytes, they complete the document of a tree that nests at most 64 deep, or no
-- document.
abbrev Ended : List PlainTrees → Spot → Type 0
Ended gs spot = ((t : PlainTree) × Now gs spot [] t × (nesting t ≤ 64)) ⊎ ((t : PlainTree) → ¬ (Now gs spot [] t))

ended : (gs : List PlainTrees) (spot : Spot) → Low gs spot → Ended gs spot
ended gs between h = inr (λ t k. open_unfinished gs t k)
ended gs (whole u) h = inl (u, (refl, refl), h)
ended [] (in_atom a) h = inl (atom a, (atom_end [] a [] (atom a) refl).1 (refl, refl), omega arith)
ended (g ∷ gs) (in_atom a) h = inr (λ t k. atom_unfinished (g ∷ gs) a t (λ e. cc) k)
ended gs (in_text x) h = inr (λ t k. text_unfinished gs x t k)
ended gs (in_escape x) h = inr (λ t k. escape_unfinished gs x t k)

-- The reader has read the bytes `front`.
abbrev Reads : List PlainTrees → Spot → List ℕ → Type 0
Reads gs spot front = (rest : List ℕ) (t : PlainTree) → Now gs spot rest t ↔ Spells (front ++ rest) t

abbrev pub IsRead : List ℕ → Type 0
IsRead bytes = ((t : PlainTree) × Accepted bytes t) ⊎ ((fault : TreeFault) × IsFaultOf bytes fault)

module _ (bytes front : List ℕ) (gs : List PlainTrees) (spot : Spot) (short : IsShortText bytes) (low : Low gs spot) (reads : Reads gs spot front) where
  at_the_end : bytes ≡ front ++ [] → Ended gs spot → IsRead bytes
  at_the_end e (inl (t, k, n)) =
      inl (t, record { short = short.0; utf8 = short.1; spelled = subst (λ z. Spells z t) (sym e) ((reads [] t).0 k); shallow = n })
  at_the_end e (inr none_ends) =
      let (rest, t, k, n) = ends gs spot low in
      let all : bytes ≡ front = e ∙ append-nil front in
      inr (
        faults.Unclosed (length bytes),
        (
          short,
          record {
            at_end = refl;
            begun = (rest, t, subst (λ z. Spells (z ++ rest) t) (sym all) ((reads rest t).0 k), n);
            none = λ u h. none_ends u ((reads [] u).1 (subst (λ z. Spells z u) e h));
          },
        ),
      )

  module _ (b : ℕ) (left : List ℕ) (parts : bytes ≡ front ++ b ∷ left) where
    up_to : take (length front) bytes ≡ front
    up_to = ap (take (length front)) parts ∙ take-append_seam front (b ∷ left)

    further : bytes ≡ (front ++ b ∷ []) ++ left
    further = parts ∙ sym (append_assoc front (b ∷ []) left)

    past : take (length front + 1) bytes ≡ front ++ b ∷ []
    past =
        let n : length front + 1 ≡ length (front ++ b ∷ []) = omega (arith, length-append front (b ∷ [])) in
        ap (λ z. take z bytes) n ∙ ap (take (length (front ++ b ∷ []))) further ∙ take-append_seam (front ++ b ∷ []) left

    past_then : (rest : List ℕ) → take (length front + 1) bytes ++ rest ≡ front ++ b ∷ rest
    past_then rest = ap (λ z. z ++ rest) past ∙ append_assoc front (b ∷ []) rest

    inside : length front < length bytes
    inside = omega (arith, ap length parts, length-append front (b ∷ left))

    before : IsBegunWithin 64 (take (length front) bytes)
    before =
        let (rest, t, k, n) = ends gs spot low in
        (rest, t, subst (λ z. Spells (z ++ rest) t) (sym up_to) ((reads rest t).0 k), n)

    is_byte : get_or bytes (length front) 0 ≡ b
    is_byte =
        let n : get_or (drop (length front) bytes) 0 0 ≡ get_or bytes (length front + 0) 0 = get_or-drop (length front) bytes 0 0 in
        let m : get_or bytes (length front + 0) 0 ≡ get_or bytes (length front) 0 = ap (λ z. get_or bytes z 0) (add-zero (length front)) in
        sym (n ∙ m) ∙ ap (λ z. get_or z 0 0) (ap (drop (length front)) parts ∙ drop-append_seam front (b ∷ left))

    goes_on : (m : Moved gs spot b) → Reads m.lists m.next (front ++ b ∷ [])
    goes_on m rest t =
        let e : (front ++ b ∷ []) ++ rest ≡ front ++ b ∷ rest = append_assoc front (b ∷ []) rest in (
          λ h. subst (λ z. Spells z t) (sym e) ((reads (b ∷ rest) t).0 ((m.same rest t).1 h)),
          λ h. (m.same rest t).0 ((reads (b ∷ rest) t).1 (subst (λ z. Spells z t) e h)),
        )

    stray_at : Stuck gs spot b → IsStrayAt bytes (length front)
    stray_at stuck = record {
      within = inside;
      before = before;
      after = λ (rest, t, h). stuck rest t ((reads (b ∷ rest) t).1 (subst (λ z. Spells z t) (past_then rest) h));
    }

    deep_at : Deepened gs spot b → IsDeepAt bytes (length front)
    deep_at d =
        let (rest, t, h) = d.some in
        record {
          within = inside;
          opens = is_byte ∙ d.opening;
          before = before;
          after = (rest, t, subst (λ z. Spells z t) (sym (past_then rest)) ((reads (b ∷ rest) t).0 h));
          deeper = λ (rs, u, i, k).
              let m : 64 < nesting u = d.deeper rs u ((reads (b ∷ rs) u).1 (subst (λ z. Spells z u) (past_then rs) i)) in
              omega arith;
        }

walked : (bytes front left : List ℕ) (gs : List PlainTrees) (spot : Spot) → bytes ≡ front ++ left → IsShortText bytes → Low gs spot → Reads gs spot front → IsRead bytes
walked bytes front [] gs spot e short low reads = at_the_end bytes front gs spot short low reads e (ended gs spot low)
walked bytes front (b ∷ left) gs spot e short low reads = elim (step gs spot b low) [
  | inl m ↦ walked bytes (front ++ b ∷ []) left m.lists m.next (further bytes front gs spot short low reads b left e) short m.low (goes_on bytes front gs spot short low reads b left e m)
  | inr (inl stuck) ↦ inr (faults.Stray (length front), (short, stray_at bytes front gs spot short low reads b left e stuck))
  | inr (inr d) ↦ inr (faults.Deep (length front), (short, deep_at bytes front gs spot short low reads b left e d))
]

begins_document : Reads [] between []
begins_document rest t = (
  λ (u, to, h, k). (to, subst (λ z. TreeAt z (skip rest) to) (sym k.1) h, k.0),
  λ (to, h, k). (t, to, h, (k, refl)),
)

pub each_read : (bytes : List ℕ) → IsShortText bytes → IsRead bytes
each_read bytes short = walked bytes [] bytes [] between refl short tt begins_document
