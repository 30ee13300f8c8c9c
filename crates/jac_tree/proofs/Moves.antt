-- How each byte changes the ways to complete a document.
use Rattle.std.proofs.Common.{◌≡◌, ◌≢◌, ◌↔◌, ◌⊎◌, inl, inr, ℕ, ◌+◌, ◌≤◌, Bool, true, false, ◌&&◌, List, [], ◌∷◌, ◌++◌, length, Some, None, refl, sym, ◌∙◌, ap, subst, arith, append_assoc, append-nil, length-append, if◌then◌else◌, max}
use Rattle.jac_tree.specs.Grammar.{is_white, skip, are_atom_bytes, begins_with_atom_byte, is_plain_byte, escape_meaning, PieceAt, PiecesAt, TreeAt, TreesAt}
use Rattle.jac_value.specs.Names.{is_atom_byte}
use Rattle.jac_tree.specs.Plain.{PlainTree, PlainTrees, onto, nesting, nesting_all}
use Rattle.jac_tree.specs.Plain.PlainTree.{atom, text, list}
use Rattle.jac_tree.specs.Plain.PlainTrees.{none, more}
use Rattle.jac_tree.specs.Mirror.{plain_all}
use Rattle.jac_tree.specs.Reading.{open_lists, After, Between, InsideAtom, InsideText}
use Rattle.jac_tree.specs.declared.tree.Trees.{Trees}

pub both : (x y : Bool) → x && y ≡ true → (x ≡ true) × (y ≡ true)
both true y e = (refl, e)
both false y e = cc

pub same_head : (a b : ℕ) (xs bs : List ℕ) → a ∷ xs ≡ b ∷ bs → a ≡ b
same_head a b xs bs e = cc

pub apart : (a b : ℕ) → a ≡ 34 → a ≡ b → (b ≡ 92) ⊎ (b ≡ 40) → ⊥
apart a b p q (inl r) = omega arith
apart a b p q (inr r) = omega arith

pub skip_white : (b : ℕ) (bs : List ℕ) → is_white b ≡ true → skip (b ∷ bs) ≡ skip bs
skip_white b bs w = ap (λ z. if z then skip bs else b ∷ bs) w

pub skip_other : (b : ℕ) (bs : List ℕ) → is_white b ≡ false → skip (b ∷ bs) ≡ b ∷ bs
skip_other b bs w = ap (λ z. if z then skip bs else b ∷ bs) w

trees_front : (ts : PlainTrees) (x y to : List ℕ) → skip x ≡ skip y → TreesAt ts x to → TreesAt ts y to
trees_front none x y to e h = sym e ∙ h
trees_front (more t ts) x y to e (rest, h, k) = (rest, subst (λ z. TreeAt t z rest) e h, k)

-- Whitespace is skipped.
pub between_white : (gs : List PlainTrees) (b : ℕ) (bs : List ℕ) (t : PlainTree) → is_white b ≡ true → Between gs (b ∷ bs) t ↔ Between gs bs t
between_white [] b bs t w =
    let e = skip_white b bs w in
    (λ (u, to, h, k). (u, to, subst (λ z. TreeAt u z to) e h, k), λ (u, to, h, k). (u, to, subst (λ z. TreeAt u z to) (sym e) h, k))
between_white (g ∷ gs) b bs t w =
    let e = skip_white b bs w in
    (λ (ts, to, h, k). (ts, to, trees_front ts _ _ to e h, k), λ (ts, to, h, k). (ts, to, trees_front ts _ _ to (sym e) h, k))

-- The bytes begin with a tree, and complete the document of `t`.
abbrev pub Item : List PlainTrees → List ℕ → PlainTree → Type 0
Item gs bytes t = (u : PlainTree) × (to : List ℕ) × TreeAt u bytes to × After gs u to t

item_from : (g : PlainTrees) (gs : List PlainTrees) (ts : PlainTrees) (b : ℕ) (bytes bs to : List ℕ) (t : PlainTree)
    → skip bytes ≡ b ∷ bs → b ≢ 41 → TreesAt ts bytes to → After gs (list (onto g ts)) to t → Item (g ∷ gs) (b ∷ bs) t
item_from g gs none b bytes bs to t e ne h k = let q : b ≡ 41 = cc in absurd (ne q)
item_from g gs (more u ts) b bytes bs to t e ne (rest, h, i) k = (u, rest, subst (λ z. TreeAt u z rest) e h, (ts, to, i, k))

-- A byte that is neither whitespace nor a closing bracket begins a tree.
pub between_item : (gs : List PlainTrees) (b : ℕ) (bs : List ℕ) (t : PlainTree) → is_white b ≡ false → b ≢ 41 → Between gs (b ∷ bs) t ↔ Item gs (b ∷ bs) t
between_item [] b bs t w ne =
    let e = skip_other b bs w in
    (λ (u, to, h, k). (u, to, subst (λ z. TreeAt u z to) e h, k), λ (u, to, h, k). (u, to, subst (λ z. TreeAt u z to) (sym e) h, k))
between_item (g ∷ gs) b bs t w ne =
    let e = skip_other b bs w in (
      λ (ts, to, h, k). item_from g gs ts b (b ∷ bs) bs to t e ne h k,
      λ (u, rest, h, (ts, to, i, k)). (more u ts, to, (rest, subst (λ z. TreeAt u z rest) (sym e) h, i), k),
    )

-- The first byte that a tree of each kind has.
abbrev pub Begins : PlainTree → ℕ → Type 0
Begins (atom a) b = is_atom_byte b ≡ true
Begins (text x) b = b ≡ 34
Begins (list ts) b = b ≡ 40

atom_begins : (a to : List ℕ) (b : ℕ) (bs : List ℕ) → a ≢ [] → are_atom_bytes a ≡ true → b ∷ bs ≡ a ++ to → is_atom_byte b ≡ true
atom_begins [] to b bs ne all e = absurd (ne refl)
atom_begins (x ∷ a) to b bs ne all e =
    let q : x ≡ b = cc in
    subst (λ z. is_atom_byte z ≡ true) q (both _ _ all).0

pub begins : (u : PlainTree) (b : ℕ) (bs to : List ℕ) → TreeAt u (b ∷ bs) to → Begins u b
begins (atom a) b bs to (ne, all, e, f) = atom_begins a to b bs ne all e
begins (text x) b bs to (inside, e, h) = cc
begins (list ts) b bs to (inside, e, h) = cc

-- An opening bracket begins a list.
list_from : (gs : List PlainTrees) (u : PlainTree) (bs to : List ℕ) (t : PlainTree)
    → Begins u 40 → TreeAt u (40 ∷ bs) to → After gs u to t → Between (none ∷ gs) bs t
list_from gs (atom a) bs to t s h k = cc
list_from gs (text x) bs to t s h k = absurd (apart 34 40 refl (sym s) (inr refl))
list_from gs (list us) bs to t s (inside, e, h) k =
    let q : inside ≡ bs = cc in
    (us, to, subst (λ z. TreesAt us z to) q h, k)

pub item_list : (gs : List PlainTrees) (bs : List ℕ) (t : PlainTree) → Item gs (40 ∷ bs) t ↔ Between (none ∷ gs) bs t
item_list gs bs t = (
  λ (u, to, h, k). list_from gs u bs to t (begins u 40 bs to h) h k,
  λ (us, to, h, k). (list us, to, (bs, refl, h), k),
)

-- A quote begins a text.
text_from : (gs : List PlainTrees) (u : PlainTree) (bs to : List ℕ) (t : PlainTree)
    → Begins u 34 → TreeAt u (34 ∷ bs) to → After gs u to t → InsideText gs [] bs t
text_from gs (atom a) bs to t s h k = cc
text_from gs (list us) bs to t s h k = absurd (apart 34 40 refl s (inr refl))
text_from gs (text x) bs to t s (inside, e, h) k =
    let q : inside ≡ bs = cc in
    (x, to, subst (λ z. PiecesAt x z to) q h, k)

pub item_text : (gs : List PlainTrees) (bs : List ℕ) (t : PlainTree) → Item gs (34 ∷ bs) t ↔ InsideText gs [] bs t
item_text gs bs t = (
  λ (u, to, h, k). text_from gs u bs to t (begins u 34 bs to h) h k,
  λ (x, to, h, k). (text x, to, (bs, refl, h), k),
)

-- A byte of an atom begins an atom.
atom_from : (gs : List PlainTrees) (u : PlainTree) (b : ℕ) (bs to : List ℕ) (t : PlainTree)
    → is_atom_byte b ≡ true → Begins u b → TreeAt u (b ∷ bs) to → After gs u to t → InsideAtom gs (b ∷ []) bs t
atom_from gs (text x) b bs to t w s h k = let q : is_atom_byte 34 ≡ true = subst (λ z. is_atom_byte z ≡ true) s w in cc
atom_from gs (list us) b bs to t w s h k = let q : is_atom_byte 40 ≡ true = subst (λ z. is_atom_byte z ≡ true) s w in cc
atom_from gs (atom []) b bs to t w s (ne, all, e, f) k = absurd (ne refl)
atom_from gs (atom (x ∷ a)) b bs to t w s (ne, all, e, f) k =
    let q : x ≡ b = cc in
    let r : bs ≡ a ++ to = cc in
    (a, to, (both _ _ all).1, r, f, subst (λ z. After gs (atom (z ∷ a)) to t) q k)

pub both_true : (x y : Bool) → x ≡ true → y ≡ true → x && y ≡ true
both_true true y p q = q
both_true false y p q = p

pub item_atom : (gs : List PlainTrees) (b : ℕ) (bs : List ℕ) (t : PlainTree) → is_atom_byte b ≡ true → Item gs (b ∷ bs) t ↔ InsideAtom gs (b ∷ []) bs t
item_atom gs b bs t w = (
  λ (u, to, h, k). atom_from gs u b bs to t w (begins u b bs to h) h k,
  λ (a, to, all, e, f, k). (atom (b ∷ a), to, (λ q. cc, both_true _ _ w all, ap (λ z. b ∷ z) e, f), k),
)

-- Any other byte begins no tree.
pub none_from : (u : PlainTree) (b : ℕ) → b ≢ 34 → b ≢ 40 → is_atom_byte b ≡ false → Begins u b → ⊥
none_from (atom a) b n m w s = cc
none_from (text x) b n m w s = n s
none_from (list ts) b n m w s = m s

pub item_none : (gs : List PlainTrees) (b : ℕ) (bs : List ℕ) (t : PlainTree) → b ≢ 34 → b ≢ 40 → is_atom_byte b ≡ false → Item gs (b ∷ bs) t → ⊥
item_none gs b bs t n m w (u, to, h, k) = none_from u b n m w (begins u b bs to h)

-- The innermost list ends.
end_from : (g : PlainTrees) (gs : List PlainTrees) (ts : PlainTrees) (bs to : List ℕ) (t : PlainTree)
    → TreesAt ts (41 ∷ bs) to → After gs (list (onto g ts)) to t → After gs (list (onto g none)) bs t
end_from g gs none bs to t h k =
    let q : to ≡ bs = cc in
    subst (λ z. After gs (list (onto g none)) z t) q k
end_from g gs (more u ts) bs to t (rest, h, i) k =
    absurd (none_from u 41 (λ e. omega arith) (λ e. omega arith) refl (begins u 41 bs rest h))

pub between_end : (g : PlainTrees) (gs : List PlainTrees) (bs : List ℕ) (t : PlainTree) → Between (g ∷ gs) (41 ∷ bs) t ↔ After gs (list (onto g none)) bs t
between_end g gs bs t = (
  λ (ts, to, h, k). end_from g gs ts bs to t h k,
  λ k. (none, bs, refl, k),
)

pub between_no_end : (bs : List ℕ) (t : PlainTree) → Between [] (41 ∷ bs) t → ⊥
between_no_end bs t (u, to, h, k) = none_from u 41 (λ e. omega arith) (λ e. omega arith) refl (begins u 41 bs to h)

-- Inside an atom, a byte of an atom continues it.
atom_more_from : (gs : List PlainTrees) (a m : List ℕ) (b : ℕ) (bs to : List ℕ) (t : PlainTree)
    → is_atom_byte b ≡ true → are_atom_bytes m ≡ true → b ∷ bs ≡ m ++ to → begins_with_atom_byte to ≡ false → After gs (atom (a ++ m)) to t
    → InsideAtom gs (a ++ b ∷ []) bs t
atom_more_from gs a [] b bs to t w all e f k =
    let q : is_atom_byte b ≡ false = subst (λ z. begins_with_atom_byte z ≡ false) (sym e) f in cc
atom_more_from gs a (x ∷ m) b bs to t w all e f k =
    let q : x ≡ b = cc in
    let r : bs ≡ m ++ to = cc in
    let s : a ++ x ∷ m ≡ (a ++ b ∷ []) ++ m = ap (λ z. a ++ z ∷ m) q ∙ sym (append_assoc a (b ∷ []) m) in
    (m, to, (both _ _ all).1, r, f, subst (λ z. After gs (atom z) to t) s k)

pub atom_more : (gs : List PlainTrees) (a : List ℕ) (b : ℕ) (bs : List ℕ) (t : PlainTree)
    → is_atom_byte b ≡ true → InsideAtom gs a (b ∷ bs) t ↔ InsideAtom gs (a ++ b ∷ []) bs t
atom_more gs a b bs t w = (
  λ (m, to, all, e, f, k). atom_more_from gs a m b bs to t w all e f k,
  λ (m, to, all, e, f, k). (b ∷ m, to, both_true _ _ w all, ap (λ z. b ∷ z) e, f, subst (λ z. After gs (atom z) to t) (append_assoc a (b ∷ []) m) k),
)

atom_end_from : (gs : List PlainTrees) (a m bytes to : List ℕ) (t : PlainTree)
    → begins_with_atom_byte bytes ≡ false → are_atom_bytes m ≡ true → bytes ≡ m ++ to → After gs (atom (a ++ m)) to t → After gs (atom a) bytes t
atom_end_from gs a [] bytes to t w all e k =
    subst (λ z. After gs (atom a) z t) (sym e) (subst (λ z. After gs (atom z) to t) (append-nil a) k)
atom_end_from gs a (x ∷ m) bytes to t w all e k =
    let q : is_atom_byte x ≡ false = subst (λ z. begins_with_atom_byte z ≡ false) e w in
    let r : is_atom_byte x ≡ true = (both _ _ all).0 in cc

-- An atom ends if no byte of an atom follows.
pub atom_end : (gs : List PlainTrees) (a bytes : List ℕ) (t : PlainTree)
    → begins_with_atom_byte bytes ≡ false → InsideAtom gs a bytes t ↔ After gs (atom a) bytes t
atom_end gs a bytes t w = (
  λ (m, to, all, e, f, k). atom_end_from gs a m bytes to t w all e k,
  λ k. ([], bytes, refl, refl, w, subst (λ z. After gs (atom z) bytes t) (sym (append-nil a)) k),
)

-- Inside a text, a quote is no piece.
pub piece_quote : (z : ℕ) (bs rest : List ℕ) → PieceAt z (34 ∷ bs) rest → ⊥
piece_quote z bs rest (inl (p, e)) =
    let q : z ≡ 34 = cc in
    let r : is_plain_byte 34 ≡ true = subst (λ y. is_plain_byte y ≡ true) q p in cc
piece_quote z bs rest (inr (x, p, e)) = apart 34 92 refl (same_head _ _ _ _ e) (inl refl)

text_end_from : (gs : List PlainTrees) (x y bs to : List ℕ) (t : PlainTree)
    → PiecesAt y (34 ∷ bs) to → After gs (text (x ++ y)) to t → After gs (text x) bs t
text_end_from gs x [] bs to t h k =
    let q : to ≡ bs = cc in
    subst (λ z. After gs (text x) z t) q (subst (λ z. After gs (text z) to t) (append-nil x) k)
text_end_from gs x (z ∷ y) bs to t (rest, p, h) k = absurd (piece_quote z bs rest p)

pub text_end : (gs : List PlainTrees) (x bs : List ℕ) (t : PlainTree) → InsideText gs x (34 ∷ bs) t ↔ After gs (text x) bs t
text_end gs x bs t = (
  λ (y, to, h, k). text_end_from gs x y bs to t h k,
  λ k. ([], bs, refl, subst (λ z. After gs (text z) bs t) (sym (append-nil x)) k),
)

joined : (gs : List PlainTrees) (x y : List ℕ) (b : ℕ) (to : List ℕ) (t : PlainTree)
    → After gs (text (x ++ b ∷ y)) to t ↔ After gs (text ((x ++ b ∷ []) ++ y)) to t
joined gs x y b to t =
    let e = append_assoc x (b ∷ []) y in
    (λ k. subst (λ z. After gs (text z) to t) (sym e) k, λ k. subst (λ z. After gs (text z) to t) e k)

plain_piece : (z b : ℕ) (bs rest : List ℕ) → is_plain_byte b ≡ true → PieceAt z (b ∷ bs) rest → (z ≡ b) × (rest ≡ bs)
plain_piece z b bs rest w (inl (p, e)) = (cc, cc)
plain_piece z b bs rest w (inr (x, p, e)) =
    let q : b ≡ 92 = cc in
    let r : is_plain_byte 92 ≡ true = subst (λ y. is_plain_byte y ≡ true) q w in cc

text_plain_from : (gs : List PlainTrees) (x y : List ℕ) (b : ℕ) (bs to : List ℕ) (t : PlainTree)
    → is_plain_byte b ≡ true → PiecesAt y (b ∷ bs) to → After gs (text (x ++ y)) to t → InsideText gs (x ++ b ∷ []) bs t
text_plain_from gs x [] b bs to t w h k =
    let q : b ≡ 34 = cc in
    let r : is_plain_byte 34 ≡ true = subst (λ y. is_plain_byte y ≡ true) q w in cc
text_plain_from gs x (z ∷ y) b bs to t w (rest, p, h) k =
    let (q, r) = plain_piece z b bs rest w p in
    (y, to, subst (λ v. PiecesAt y v to) r h, (joined gs x y b to t).0 (subst (λ v. After gs (text (x ++ v ∷ y)) to t) q k))

pub text_plain : (gs : List PlainTrees) (x : List ℕ) (b : ℕ) (bs : List ℕ) (t : PlainTree)
    → is_plain_byte b ≡ true → InsideText gs x (b ∷ bs) t ↔ InsideText gs (x ++ b ∷ []) bs t
text_plain gs x b bs t w = (
  λ (y, to, h, k). text_plain_from gs x y b bs to t w h k,
  λ (y, to, h, k). (b ∷ y, to, (bs, inl (w, refl), h), (joined gs x y b to t).1 k),
)

abbrev pub are_plain_bytes : List ℕ → Bool
are_plain_bytes [] = true
are_plain_bytes (b ∷ bs) = is_plain_byte b && are_plain_bytes bs

pub text_plain_all : (gs : List PlainTrees) (x p bs : List ℕ) (t : PlainTree)
    → are_plain_bytes p ≡ true → InsideText gs x (p ++ bs) t ↔ InsideText gs (x ++ p) bs t
text_plain_all gs x [] bs t w =
    let e = append-nil x in
    (λ h. subst (λ z. InsideText gs z bs t) (sym e) h, λ h. subst (λ z. InsideText gs z bs t) e h)
text_plain_all gs x (b ∷ p) bs t w =
    let one = text_plain gs x b (p ++ bs) t (both _ _ w).0 in
    let rest = text_plain_all gs (x ++ b ∷ []) p bs t (both _ _ w).1 in
    let e = append_assoc x (b ∷ []) p in (
      λ h. subst (λ z. InsideText gs z bs t) e (rest.0 (one.0 h)),
      λ h. one.1 (rest.1 (subst (λ z. InsideText gs z bs t) (sym e) h)),
    )

-- A piece that begins with a backslash is an escape.
escape_piece : (z e : ℕ) (bs rest : List ℕ) → PieceAt z (92 ∷ e ∷ bs) rest → (escape_meaning e ≡ Some z) × (rest ≡ bs)
escape_piece z e bs rest (inl (p, q)) =
    let s : z ≡ 92 = cc in
    let r : is_plain_byte 92 ≡ true = subst (λ y. is_plain_byte y ≡ true) s p in cc
escape_piece z e bs rest (inr (x, p, q)) =
    let s : x ≡ e = cc in
    (subst (λ y. escape_meaning y ≡ Some z) s p, cc)

escape_from : (gs : List PlainTrees) (x y : List ℕ) (e b : ℕ) (bs to : List ℕ) (t : PlainTree)
    → escape_meaning e ≡ Some b → PiecesAt y (92 ∷ e ∷ bs) to → After gs (text (x ++ y)) to t → InsideText gs (x ++ b ∷ []) bs t
escape_from gs x [] e b bs to t w h k = absurd (apart 34 92 refl (same_head _ _ _ _ (sym h)) (inl refl))
escape_from gs x (z ∷ y) e b bs to t w (rest, p, h) k =
    let (q, r) = escape_piece z e bs rest p in
    let s : z ≡ b = cc in
    (y, to, subst (λ v. PiecesAt y v to) r h, (joined gs x y b to t).0 (subst (λ v. After gs (text (x ++ v ∷ y)) to t) s k))

pub text_escape : (gs : List PlainTrees) (x : List ℕ) (e b : ℕ) (bs : List ℕ) (t : PlainTree)
    → escape_meaning e ≡ Some b → InsideText gs x (92 ∷ e ∷ bs) t ↔ InsideText gs (x ++ b ∷ []) bs t
text_escape gs x e b bs t w = (
  λ (y, to, h, k). escape_from gs x y e b bs to t w h k,
  λ (y, to, h, k). (b ∷ y, to, (bs, inr (e, w, refl), h), (joined gs x y b to t).1 k),
)

no_escape_from : (y : List ℕ) (e : ℕ) (bs to : List ℕ) → escape_meaning e ≡ None → PiecesAt y (92 ∷ e ∷ bs) to → ⊥
no_escape_from [] e bs to w h = apart 34 92 refl (same_head _ _ _ _ (sym h)) (inl refl)
no_escape_from (z ∷ y) e bs to w (rest, p, h) = let q : escape_meaning e ≡ Some z = (escape_piece z e bs rest p).0 in cc

pub text_no_escape : (gs : List PlainTrees) (x : List ℕ) (e : ℕ) (bs : List ℕ) (t : PlainTree)
    → escape_meaning e ≡ None → InsideText gs x (92 ∷ e ∷ bs) t → ⊥
text_no_escape gs x e bs t w (y, to, h, k) = no_escape_from y e bs to w h

-- After the document's tree, whitespace is skipped.
pub complete_white : (b : ℕ) (bs : List ℕ) → is_white b ≡ true → (skip (b ∷ bs) ≡ []) ↔ (skip bs ≡ [])
complete_white b bs w = let e = skip_white b bs w in (λ h. sym e ∙ h, λ h. e ∙ h)

pub complete_other : (b : ℕ) (bs : List ℕ) → is_white b ≡ false → skip (b ∷ bs) ≡ [] → ⊥
complete_other b bs w h = let e = skip_other b bs w in let q : b ∷ bs ≡ [] = sym e ∙ h in cc

least_onto : (g ts : PlainTrees) → nesting_all ts ≤ nesting_all (onto g ts)
least_onto none ts = omega arith
least_onto (more v g) ts =
    let n : nesting_all (more v ts) ≤ nesting_all (onto g (more v ts)) = least_onto g (more v ts) in
    omega arith

inside : (g : PlainTrees) (u : PlainTree) (ts : PlainTrees) → nesting u ≤ nesting_all (onto (more u g) ts)
inside g u ts =
    let n : nesting_all (more u ts) ≤ nesting_all (onto g (more u ts)) = least_onto g (more u ts) in
    omega arith

-- Each open list is one level of the document's tree.
pub after_deep : (gs : List PlainTrees) (u : PlainTree) (bytes : List ℕ) (t : PlainTree) → After gs u bytes t → nesting u + length gs ≤ nesting t
after_deep [] u bytes t (e, f) = let q : nesting t ≡ nesting u = ap nesting f in omega arith
after_deep (g ∷ gs) u bytes t (ts, to, h, k) =
    let n = after_deep gs (list (onto (more u g) ts)) to t k in
    let m : nesting u ≤ nesting_all (onto (more u g) ts) = inside g u ts in
    omega arith

-- The last list of the stack is the innermost one.
pub open_lists-push : (stack : List Trees) (ts : Trees) → open_lists (stack ++ ts ∷ []) ≡ plain_all ts ∷ open_lists stack
open_lists-push [] ts = refl
open_lists-push (us ∷ stack) ts = ap (λ z. z ++ plain_all us ∷ []) (open_lists-push stack ts)

pub length-open_lists : (stack : List Trees) → length (open_lists stack) ≡ length stack
length-open_lists [] = refl
length-open_lists (ts ∷ stack) =
    let n = length-open_lists stack in
    let m = length-append (open_lists stack) (plain_all ts ∷ []) in
    omega arith

-- The nesting of a list reversed before another is the larger of their nestings.
pub nesting-onto : (g ts : PlainTrees) → nesting_all (onto g ts) ≡ max (nesting_all g) (nesting_all ts)
nesting-onto none ts = omega arith
nesting-onto (more u g) ts =
    let e : nesting_all (onto g (more u ts)) ≡ max (nesting_all g) (nesting_all (more u ts)) = nesting-onto g (more u ts) in
    omega arith
