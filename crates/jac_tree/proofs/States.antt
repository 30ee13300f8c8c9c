-- How each character changes the state of a reader.
use Rattle.std.proofs.Common.{◌≡◌, ◌≢◌, ◌↔◌, inl, inr, ℕ, ◌+◌, ◌<◌, ◌≤◌, true, false, List, [], ◌∷◌, ◌++◌, length, take, Some, None, refl, sym, ◌∙◌, ap, subst, arith, length-append, string_bytes, encode_utf8, max}
use Rattle.std.proofs.lemmas.Str.{encode_ascii}
use Rattle.jac_tree.specs.declared.read.Mode.{Mode}
use Rattle.jac_tree.specs.declared.read.Mode.TheVariants as modes
use Rattle.jac_tree.specs.declared.read.Place.{Place}
use Rattle.jac_tree.specs.declared.read.Place.TheVariants as places
use Rattle.jac_tree.specs.declared.fault.TreeFault.{TreeFault}
use Rattle.jac_tree.specs.declared.fault.TreeFault.TheVariants as faults
use Rattle.jac_tree.specs.declared.tree.Tree.{Tree}
use Rattle.jac_tree.specs.declared.tree.Trees.{Trees}
use Rattle.jac_tree.specs.Grammar.{is_white, skip, begins_with_atom_byte, is_plain_byte, escape_meaning, PieceAt, PiecesAt, TreeAt, TreesAt}
use Rattle.jac_value.specs.Names.{is_atom_byte}
use Rattle.jac_tree.specs.Mirror.{plain, plain_all}
use Rattle.jac_tree.specs.Plain.{PlainTree, PlainTrees, onto, nesting, nesting_all}
use Rattle.jac_tree.specs.Plain.PlainTree.{atom, text, list}
use Rattle.jac_tree.specs.Plain.PlainTrees.{none, more}
use Rattle.jac_tree.specs.Reading.{open_lists, After, Between, InsideAtom, InsideText, Completes, CompletesPlace, StepsReader, IsStuck, IsTooDeep, FaultsFor, Settles, AreShallow, IsShallow}
use Rattle.jac_tree.proofs.Bytes.{white_small, atom_small, escaped_small, first_of, first_white, first_atom, first_escaped, first_other, plain_char}
use Rattle.jac_tree.proofs.Moves.{between_white, between_item, item_list, item_text, item_atom, item_none, between_end, between_no_end, atom_more, atom_end, text_end, text_plain_all, text_escape, text_no_escape, complete_white, complete_other, after_deep, nesting-onto, open_lists-push, same_head, apart}

pub chain : {A B C : Type 0} → A ↔ B → B ↔ C → A ↔ C
chain p q = (λ a. q.0 (p.0 a), λ c. p.1 (q.1 c))

-- The open lists after a list is pushed onto the stack, or before it is popped.
pub opened : (all rest : List Trees) (ts : Trees) → all ≡ rest ++ ts ∷ [] → open_lists all ≡ plain_all ts ∷ open_lists rest
opened all rest ts e = ap open_lists e ∙ open_lists-push rest ts

pub none_open : (stack : List Trees) → length stack ≡ 0 → open_lists stack ≡ []
none_open [] e = refl
none_open (ts ∷ stack) e = absurd (omega arith)

pub grown : (fs : List PlainTrees) (u v : Tree) (ts us : Trees) → u ≡ v → ts ≡ us → more (plain u) (plain_all ts) ∷ fs ≡ more (plain v) (plain_all us) ∷ fs
grown fs u v ts us p q = ap (λ z. more (plain z) (plain_all ts) ∷ fs) p ∙ ap (λ z. more (plain v) (plain_all z) ∷ fs) q

-- A tree that ends inside an open list becomes the last tree of that list.
pub settles : (gs hs fs : List PlainTrees) (g : PlainTrees) (u : PlainTree) → gs ≡ g ∷ fs → hs ≡ more u g ∷ fs
    → (rest : List ℕ) (t : PlainTree) → After gs u rest t ↔ Between hs rest t
settles gs hs fs g u p q rest t =
    let same : After (g ∷ fs) u rest t ↔ Between (more u g ∷ fs) rest t = (λ h. h, λ h. h) in
    subst (λ z. After z u rest t ↔ Between hs rest t) (sym p) (subst (λ z. After (g ∷ fs) u rest t ↔ Between z rest t) (sym q) same)

pub shallow_more : (fs : List PlainTrees) (g : PlainTrees) (u : PlainTree) → AreShallow (g ∷ fs) → nesting u + length (g ∷ fs) ≤ 64 → AreShallow (more u g ∷ fs)
shallow_more fs g u (h, k) n = (omega arith, k)

pub settles_shallow : (gs hs fs : List PlainTrees) (g : PlainTrees) (u : PlainTree) → gs ≡ g ∷ fs → hs ≡ more u g ∷ fs
    → AreShallow gs → nesting u + length gs ≤ 64 → AreShallow hs
settles_shallow gs hs fs g u p q h n =
    let k : AreShallow (g ∷ fs) = subst AreShallow p h in
    let m : nesting u + length (g ∷ fs) ≤ 64 = subst (λ z. nesting u + length z ≤ 64) p n in
    subst AreShallow (sym q) (shallow_more fs g u k m)

pub shallow_few : (gs : List PlainTrees) → AreShallow gs → length gs ≤ 64
shallow_few [] h = omega arith
shallow_few (g ∷ gs) (h, k) = omega arith

-- Whitespace is skipped.
pub white_step : (gs : List PlainTrees) (c : ℕ) → is_white c ≡ true → StepsReader gs (modes.Outside places.Open) (encode_utf8 c) gs (modes.Outside places.Open)
white_step gs c w rest t =
    subst (λ z. Between gs (z ++ rest) t ↔ Between gs rest t) (sym (encode_ascii c (white_small c w))) (between_white gs c rest t w)

-- A closing bracket ends the innermost list.
pub close_step : (gs hs fs : List PlainTrees) (g ts : PlainTrees) (place : Place) → gs ≡ g ∷ fs → ts ≡ onto g none
    → Settles fs (list ts) hs place → StepsReader gs (modes.Outside places.Open) (41 ∷ []) hs (modes.Outside place)
close_step gs hs fs g ts place p q s rest t =
    let ended = between_end g fs rest t in
    let k = s rest t in
    chain (subst (λ z. Between z (41 ∷ rest) t ↔ After fs (list ts) rest t) (sym p) (subst (λ z. Between (g ∷ fs) (41 ∷ rest) t ↔ After fs (list z) rest t) (sym q) ended)) k

pub close_shallow : (gs fs : List PlainTrees) (g ts : PlainTrees) → gs ≡ g ∷ fs → ts ≡ onto g none
    → AreShallow gs → AreShallow fs × (nesting (list ts) + length fs ≤ 64)
close_shallow gs fs g ts p q h =
    let (m, k) = subst AreShallow p h in
    let n = nesting-onto g none in
    let e : nesting_all ts ≡ nesting_all (onto g none) = ap nesting_all q in
    (k, omega arith)

pub close_stuck : (gs : List PlainTrees) → gs ≡ [] → IsStuck gs (modes.Outside places.Open) (41 ∷ [])
close_stuck gs p rest t h = between_no_end rest t (subst (λ z. Between z (41 ∷ rest) t) p h)

-- An opening bracket begins a list.
pub opens : (gs : List PlainTrees) (rest : List ℕ) (t : PlainTree) → Between gs (40 ∷ rest) t ↔ Between (none ∷ gs) rest t
opens gs rest t = chain (between_item gs 40 rest t refl (λ e. omega arith)) (item_list gs rest t)

pub open_step : (gs hs : List PlainTrees) → hs ≡ none ∷ gs → StepsReader gs (modes.Outside places.Open) (40 ∷ []) hs (modes.Outside places.Open)
open_step gs hs p rest t = subst (λ z. Between gs (40 ∷ rest) t ↔ Between z rest t) (sym p) (opens gs rest t)

pub open_shallow : (gs hs : List PlainTrees) → hs ≡ none ∷ gs → length gs < 64 → AreShallow gs → AreShallow hs
open_shallow gs hs p n h = let k : AreShallow (none ∷ gs) = (omega arith, h) in subst AreShallow (sym p) k

-- A quote begins a text.
pub quote_step : (gs : List PlainTrees) (c : ℕ) (x : List ℕ) → c ≡ 34 → x ≡ [] → (rest : List ℕ) (t : PlainTree) → Between gs (encode_utf8 c ++ rest) t ↔ InsideText gs x rest t
quote_step gs c x q p rest t =
    let e = encode_ascii c (omega arith) ∙ ap (λ z. z ∷ []) q in
    let one = chain (between_item gs 34 rest t refl (λ h. omega arith)) (item_text gs rest t) in
    subst (λ z. Between gs (z ++ rest) t ↔ InsideText gs x rest t) (sym e) (subst (λ z. Between gs (34 ∷ rest) t ↔ InsideText gs z rest t) (sym p) one)

-- The first character of an atom begins the atom.
pub atom_step : (gs : List PlainTrees) (c : ℕ) (x : List ℕ) → is_white c ≡ false → c ≢ 41 → is_atom_byte c ≡ true → x ≡ encode_utf8 c
    → (rest : List ℕ) (t : PlainTree) → Between gs (encode_utf8 c ++ rest) t ↔ InsideAtom gs x rest t
atom_step gs c x w n a p rest t =
    let e = encode_ascii c (atom_small c a) in
    let h = chain (between_item gs c rest t w n) (item_atom gs c rest t a) in
    subst (λ z. Between gs (z ++ rest) t ↔ InsideAtom gs x rest t) (sym e)
    (subst (λ z. Between gs (c ∷ rest) t ↔ InsideAtom gs z rest t) (sym (p ∙ e)) h)

pub begin_stuck : (gs : List PlainTrees) (c : ℕ) → is_white c ≡ false → c ≢ 34 → c ≢ 40 → c ≢ 41 → is_atom_byte c ≡ false
    → IsStuck gs (modes.Outside places.Open) (encode_utf8 c)
begin_stuck gs c w n m k a rest t h =
    let f = first_of c in
    let b = f.byte in
    let i : Between gs (b ∷ rest) t = subst (λ z. Between gs (z ++ rest) t) f.front h in
    item_none gs b rest t (first_other c 34 f (omega arith) n) (first_other c 40 f (omega arith) m) (first_atom c f a)
    ((between_item gs b rest t (first_white c f w) (first_other c 41 f (omega arith) k)).0 i)

-- Inside an atom, a character of an atom continues it.
pub in_atom_step : (gs : List PlainTrees) (c : ℕ) (x y : List ℕ) → is_atom_byte c ≡ true → y ≡ x ++ encode_utf8 c
    → (rest : List ℕ) (t : PlainTree) → InsideAtom gs x (encode_utf8 c ++ rest) t ↔ InsideAtom gs y rest t
in_atom_step gs c x y a p rest t =
    let e = encode_ascii c (atom_small c a) in
    subst (λ z. InsideAtom gs x (z ++ rest) t ↔ InsideAtom gs y rest t) (sym e)
    (subst (λ z. InsideAtom gs x (c ∷ rest) t ↔ InsideAtom gs z rest t) (sym (p ∙ ap (λ z. x ++ z) e)) (atom_more gs x c rest t a))

begins_first : (xs rest : List ℕ) (b : ℕ) → take 1 xs ≡ b ∷ [] → begins_with_atom_byte (xs ++ rest) ≡ is_atom_byte b
begins_first [] rest b e = cc
begins_first (x ∷ xs) rest b e = let q : x ≡ b = cc in ap is_atom_byte q

-- An atom ends before a character that isn't one of an atom.
ended : (gs hs : List PlainTrees) (x front rest : List ℕ) (place : Place) (t : PlainTree)
    → begins_with_atom_byte (front ++ rest) ≡ false → Settles gs (atom x) hs place
    → InsideAtom gs x (front ++ rest) t ↔ CompletesPlace hs place (front ++ rest) t
ended gs hs x front rest place t w s = chain (atom_end gs x (front ++ rest) t w) (s (front ++ rest) t)

pub end_atom_step : (gs hs ks : List PlainTrees) (c : ℕ) (x : List ℕ) (place : Place) (next : Mode) → is_atom_byte c ≡ false
    → Settles gs (atom x) hs place → StepsReader hs (modes.Outside place) (encode_utf8 c) ks next
    → (rest : List ℕ) (t : PlainTree) → InsideAtom gs x (encode_utf8 c ++ rest) t ↔ Completes ks next rest t
end_atom_step gs hs ks c x place next a s k rest t =
    let f = first_of c in
    let w = begins_first (encode_utf8 c) rest f.byte f.front ∙ first_atom c f a in
    chain (ended gs hs x (encode_utf8 c) rest place t w s) (k rest t)

ends_atom : (gs hs : List PlainTrees) (c : ℕ) (mode : Mode) (x : List ℕ) (place : Place) → is_atom_byte c ≡ false
    → ((rest : List ℕ) (t : PlainTree) → Completes gs mode rest t ↔ InsideAtom gs x rest t) → Settles gs (atom x) hs place
    → (rest : List ℕ) (t : PlainTree) → Completes gs mode (take 1 (encode_utf8 c) ++ rest) t ↔ CompletesPlace hs place (take 1 (encode_utf8 c) ++ rest) t
ends_atom gs hs c mode x place n p s rest t =
    let f = first_of c in
    let w = begins_first (take 1 (encode_utf8 c)) rest f.byte (ap (take 1) f.front) ∙ first_atom c f n in
    chain (p (take 1 (encode_utf8 c) ++ rest) t) (ended gs hs x (take 1 (encode_utf8 c)) rest place t w s)

pub end_atom_fault : (gs hs : List PlainTrees) (c : ℕ) (mode : Mode) (x : List ℕ) (place : Place) (at : ℕ) (fault : TreeFault) → is_atom_byte c ≡ false
    → ((rest : List ℕ) (t : PlainTree) → Completes gs mode rest t ↔ InsideAtom gs x rest t) → Settles gs (atom x) hs place
    → FaultsFor hs (modes.Outside place) (encode_utf8 c) at fault → FaultsFor gs mode (encode_utf8 c) at fault
end_atom_fault gs hs c mode x place at faults.Memory n p s k = tt
end_atom_fault gs hs c mode x place at (faults.Stray m) n p s (e, k) =
    (e, λ rest t h. k rest t ((ends_atom gs hs c mode x place n p s rest t).0 h))
end_atom_fault gs hs c mode x place at (faults.Deep m) n p s (e, (o, (rest, t, h), k)) =
    (e, (o, (rest, t, (ends_atom gs hs c mode x place n p s rest t).1 h), λ r u i. k r u ((ends_atom gs hs c mode x place n p s r u).0 i)))
end_atom_fault gs hs c mode x place at faults.Long n p s k = k
end_atom_fault gs hs c mode x place at (faults.NotUtf8 m) n p s k = k
end_atom_fault gs hs c mode x place at (faults.Unclosed m) n p s k = k

-- Inside a text, a quote ends it.
pub end_text_step : (gs hs : List PlainTrees) (c : ℕ) (x y : List ℕ) (place : Place) → c ≡ 34 → x ≡ y → Settles gs (text x) hs place
    → (rest : List ℕ) (t : PlainTree) → InsideText gs y (encode_utf8 c ++ rest) t ↔ CompletesPlace hs place rest t
end_text_step gs hs c x y place p q s rest t =
    let e = encode_ascii c (omega arith) ∙ ap (λ z. z ∷ []) p in
    subst (λ z. InsideText gs y (z ++ rest) t ↔ CompletesPlace hs place rest t) (sym e)
    (subst (λ z. InsideText gs z (34 ∷ rest) t ↔ CompletesPlace hs place rest t) q (chain (text_end gs x rest t) (s rest t)))

pub text_step : (gs : List PlainTrees) (c : ℕ) (x y : List ℕ) → c ≢ 34 → c ≢ 92 → y ≡ x ++ encode_utf8 c
    → (rest : List ℕ) (t : PlainTree) → InsideText gs x (encode_utf8 c ++ rest) t ↔ InsideText gs y rest t
text_step gs c x y n m p rest t =
    subst (λ z. InsideText gs x (encode_utf8 c ++ rest) t ↔ InsideText gs z rest t) (sym p) (text_plain_all gs x (encode_utf8 c) rest t (plain_char c n m))

pub backslash_step : (gs : List PlainTrees) (c : ℕ) (x : List ℕ) → c ≡ 92
    → (rest : List ℕ) (t : PlainTree) → InsideText gs x (encode_utf8 c ++ rest) t ↔ InsideText gs x (92 ∷ rest) t
backslash_step gs c x p rest t =
    let e = encode_ascii c (omega arith) ∙ ap (λ z. z ∷ []) p in
    subst (λ z. InsideText gs x (z ++ rest) t ↔ InsideText gs x (92 ∷ rest) t) (sym e) (λ h. h, λ h. h)

-- The character after a backslash completes the escape.
pub escape_step : (gs : List PlainTrees) (c b : ℕ) (x y : List ℕ) → escape_meaning c ≡ Some b → y ≡ x ++ encode_utf8 b
    → (rest : List ℕ) (t : PlainTree) → InsideText gs x (92 ∷ encode_utf8 c ++ rest) t ↔ InsideText gs y rest t
escape_step gs c b x y w p rest t =
    let small = escaped_small c b w in
    subst (λ z. InsideText gs x (92 ∷ (z ++ rest)) t ↔ InsideText gs y rest t) (sym (encode_ascii c small.0))
    (subst (λ z. InsideText gs x (92 ∷ c ∷ rest) t ↔ InsideText gs z rest t) (sym (p ∙ ap (λ z. x ++ z) (encode_ascii b small.1))) (text_escape gs x c b rest t w))

pub escape_stuck : (gs : List PlainTrees) (c : ℕ) (x : List ℕ) → escape_meaning c ≡ None → (rest : List ℕ) (t : PlainTree) → InsideText gs x (92 ∷ (take 1 (encode_utf8 c) ++ rest)) t → ⊥
escape_stuck gs c x w rest t h =
    let f = first_of c in
    text_no_escape gs x f.byte rest t (first_escaped c f w) (subst (λ z. InsideText gs x (92 ∷ (z ++ rest)) t) f.front h)

-- After the document's tree, whitespace is skipped.
pub complete_step : (gs : List PlainTrees) (u : Tree) (c : ℕ) → is_white c ≡ true → StepsReader gs (modes.Outside (places.Complete u)) (encode_utf8 c) gs (modes.Outside (places.Complete u))
complete_step gs u c w rest t =
    let e = encode_ascii c (white_small c w) in
    let one = complete_white c rest w in
    subst (λ z. ((skip (z ++ rest) ≡ []) × (t ≡ plain u)) ↔ ((skip rest ≡ []) × (t ≡ plain u))) (sym e) (λ (h, k). (one.0 h, k), λ (h, k). (one.1 h, k))

pub complete_stuck : (gs : List PlainTrees) (u : Tree) (c : ℕ) → is_white c ≡ false → IsStuck gs (modes.Outside (places.Complete u)) (encode_utf8 c)
complete_stuck gs u c w rest t (h, k) =
    let f = first_of c in
    complete_other f.byte rest (first_white c f w) (subst (λ z. skip (z ++ rest) ≡ []) f.front h)

-- Empty bytes spell no tree.
pub no_tree : (u : PlainTree) (to : List ℕ) → TreeAt u [] to → ⊥
no_tree (atom []) to (n, a, e, f) = n refl
no_tree (atom (x ∷ a)) to (n, b, e, f) = cc
no_tree (text x) to (inside, e, h) = cc
no_tree (list ts) to (inside, e, h) = cc

no_trees : (ts : PlainTrees) (to : List ℕ) → TreesAt ts [] to → ⊥
no_trees none to h = cc
no_trees (more u ts) to (rest, h, k) = no_tree u rest h

pub open_unfinished : (gs : List PlainTrees) (t : PlainTree) → Between gs [] t → ⊥
open_unfinished [] t (u, to, h, k) = no_tree u to h
open_unfinished (g ∷ gs) t (ts, to, h, k) = no_trees ts to h

no_piece : (z : ℕ) (rest : List ℕ) → PieceAt z [] rest → ⊥
no_piece z rest (inl (p, e)) = cc
no_piece z rest (inr (x, p, e)) = cc

no_pieces : (y to : List ℕ) → PiecesAt y [] to → ⊥
no_pieces [] to h = cc
no_pieces (z ∷ y) to (rest, p, h) = no_piece z rest p

pub text_unfinished : (gs : List PlainTrees) (x : List ℕ) (t : PlainTree) → InsideText gs x [] t → ⊥
text_unfinished gs x t (y, to, h, k) = no_pieces y to h

no_half : (z : ℕ) (rest : List ℕ) → PieceAt z (92 ∷ []) rest → ⊥
no_half z rest (inl (p, e)) =
    let q : z ≡ 92 = cc in
    let r : is_plain_byte 92 ≡ true = subst (λ y. is_plain_byte y ≡ true) q p in cc
no_half z rest (inr (x, p, e)) = cc

no_halves : (y to : List ℕ) → PiecesAt y (92 ∷ []) to → ⊥
no_halves [] to h = apart 34 92 refl (same_head _ _ _ _ (sym h)) (inl refl)
no_halves (z ∷ y) to (rest, p, h) = no_half z rest p

pub escape_unfinished : (gs : List PlainTrees) (x : List ℕ) (t : PlainTree) → InsideText gs x (92 ∷ []) t → ⊥
escape_unfinished gs x t (y, to, h, k) = no_halves y to h

pub none_open_from : (stack : List Trees) → open_lists stack ≡ [] → length stack ≡ 0
none_open_from [] e = refl
none_open_from (ts ∷ stack) e =
    let n : length (open_lists stack ++ plain_all ts ∷ []) ≡ 0 = ap length e in
    absurd (omega (arith, n, length-append (open_lists stack) (plain_all ts ∷ [])))

pub atom_finished : (gs : List PlainTrees) (x y : List ℕ) (t : PlainTree) → gs ≡ [] → y ≡ x → InsideAtom gs x [] t ↔ (t ≡ atom y)
atom_finished gs x y t p q =
    subst (λ z. InsideAtom gs x [] t ↔ (t ≡ atom z)) (sym q) (subst (λ z. InsideAtom z x [] t ↔ (t ≡ atom x)) (sym p) (chain (atom_end [] x [] t refl) (λ (h, k). k, λ k. (refl, k))))

pub atom_unfinished : (gs : List PlainTrees) (x : List ℕ) (t : PlainTree) → gs ≢ [] → InsideAtom gs x [] t → ⊥
atom_unfinished [] x t n h = n refl
atom_unfinished (g ∷ gs) x t n h = open_unfinished (more (atom x) g ∷ gs) t ((atom_end (g ∷ gs) x [] t refl).0 h)

-- The closing brackets that end the open lists complete a document. Below: its tree.
closers : List PlainTrees → List ℕ
closers [] = []
closers (g ∷ gs) = 41 ∷ closers gs

closed : List PlainTrees → PlainTree → PlainTree
closed [] u = u
closed (g ∷ gs) u = closed gs (list (onto (more u g) none))

after_closers : (gs : List PlainTrees) (u : PlainTree) → After gs u (closers gs) (closed gs u)
unfolding closers closed
after_closers [] u = (refl, refl)
after_closers (g ∷ gs) u = (none, closers gs, refl, after_closers gs (list (onto (more u g) none)))

closed_shallow : (gs : List PlainTrees) (u : PlainTree) → AreShallow gs → nesting u + length gs ≤ 64 → nesting (closed gs u) ≤ 64
unfolding closed
closed_shallow [] u h n = omega arith
closed_shallow (g ∷ gs) u (m, h) n =
    let e : nesting_all (onto g (more u none)) ≡ max (nesting_all g) (nesting_all (more u none)) = nesting-onto g (more u none) in
    let k : nesting (list (onto (more u g) none)) + length gs ≤ 64 = omega arith in
    closed_shallow gs (list (onto (more u g) none)) h k

closers_end : (gs : List PlainTrees) → begins_with_atom_byte (closers gs) ≡ false
unfolding closers
closers_end [] = refl
closers_end (g ∷ gs) = refl

-- The bytes that the reader has read can be completed to a document of a tree that nests at most 64
-- deep.
abbrev pub CanEnd : List PlainTrees → Mode → Type 0
CanEnd gs mode = (rest : List ℕ) × (t : PlainTree) × Completes gs mode rest t × (nesting t ≤ 64)

pub open_can_end : (gs : List PlainTrees) → AreShallow gs → CanEnd gs (modes.Outside places.Open)
open_can_end [] h = (97 ∷ [], atom (97 ∷ []), (atom (97 ∷ []), [], ((λ e. cc), refl, refl, refl), (refl, refl)), omega arith)
open_can_end (g ∷ gs) (m, h) =
    let e : nesting_all (onto g none) ≡ max (nesting_all g) (nesting_all none) = nesting-onto g none in
    let k : nesting (list (onto g none)) + length gs ≤ 64 = omega arith in (
      41 ∷ closers gs,
      closed gs (list (onto g none)),
      (none, closers gs, refl, after_closers gs (list (onto g none))),
      closed_shallow gs (list (onto g none)) h k,
    )

-- The same for a reader in an atom, in a text, or after a backslash.
abbrev pub Ends : (List ℕ → PlainTree → Type 0) → Type 0
Ends Takes = (rest : List ℕ) × (t : PlainTree) × Takes rest t × (nesting t ≤ 64)

pub atom_can_end : (gs : List PlainTrees) (a : List ℕ) → AreShallow gs → Ends (InsideAtom gs a)
atom_can_end gs a h =
    let n = shallow_few gs h in (
      closers gs,
      closed gs (atom a),
      (atom_end gs a (closers gs) _ (closers_end gs)).1 (after_closers gs (atom a)),
      closed_shallow gs (atom a) h (omega arith),
    )

pub text_can_end : (gs : List PlainTrees) (x : List ℕ) → AreShallow gs → Ends (InsideText gs x)
text_can_end gs x h =
    let n = shallow_few gs h in (
      34 ∷ closers gs,
      closed gs (text x),
      (text_end gs x (closers gs) _).1 (after_closers gs (text x)),
      closed_shallow gs (text x) h (omega arith),
    )

pub escape_can_end : (gs : List PlainTrees) (x : List ℕ) → AreShallow gs → Ends (λ rest t. InsideText gs x (92 ∷ rest) t)
escape_can_end gs x h =
    let n = shallow_few gs h in
    let y = x ++ 10 ∷ [] in (
      110 ∷ 34 ∷ closers gs,
      closed gs (text y),
      (text_escape gs x 110 10 (34 ∷ closers gs) _ refl).1 ((text_end gs y (closers gs) _).1 (after_closers gs (text y))),
      closed_shallow gs (text y) h (omega arith),
    )

pub can_end : (gs : List PlainTrees) (mode : Mode) → IsShallow gs mode → CanEnd gs mode
can_end gs (modes.Outside places.Open) (h, k) = open_can_end gs h
can_end gs (modes.Outside (places.Complete u)) (h, k) = ([], plain u, (refl, refl), k)
can_end gs (modes.InAtom a) h = atom_can_end gs (string_bytes a) h
can_end gs (modes.InText a) h = text_can_end gs (string_bytes a) h
can_end gs (modes.InEscape a) h = escape_can_end gs (string_bytes a) h

-- An opening bracket inside 64 lists is too deep.
pub open_deep : (gs : List PlainTrees) → 64 ≤ length gs → IsTooDeep gs (modes.Outside places.Open) (40 ∷ [])
unfolding closers
open_deep gs n = (
  refl,
  (
    41 ∷ closers gs,
    closed gs (list none),
    (opens gs (41 ∷ closers gs) _).1 (none, closers gs, refl, after_closers gs (list none)),
  ),
  λ rest t h. deeper gs rest t n ((opens gs rest t).0 h),
)
  where
    deeper : (gs : List PlainTrees) (rest : List ℕ) (t : PlainTree) → 64 ≤ length gs → Between (none ∷ gs) rest t → 64 < nesting t
    deeper gs rest t n (ts, to, h, k) =
        let m = after_deep gs (list (onto none ts)) to t k in
        omega arith
