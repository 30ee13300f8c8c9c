-- A text spells at most one tree, and no list of it has more trees than the text has bytes.
use Rattle.std.proofs.Common.{◌≡◌, inl, inr, ℕ, ◌+◌, ◌<◌, ◌≤◌, true, false, List, [], ◌∷◌, ◌++◌, length, Some, refl, sym, ◌∙◌, ap, subst, arith, length-append}
use Rattle.jac_tree.specs.Grammar.{skip, is_white, are_atom_bytes, begins_with_atom_byte, is_plain_byte, escape_meaning, PieceAt, PiecesAt, TreeAt, TreesAt, Spells}
use Rattle.jac_value.specs.Names.{is_atom_byte}
use Rattle.jac_tree.specs.Plain.{PlainTree, PlainTrees, tree_list, widest, widest_all}
use Rattle.jac_tree.specs.Plain.PlainTree.{atom, text, list}
use Rattle.jac_tree.specs.Plain.PlainTrees.{none, more}
use Rattle.jac_tree.proofs.Moves.{both, begins, none_from, apart, piece_quote, skip_white, skip_other}
use Rattle.jac_tree.proofs.States.{no_tree}

run_unique : (a b to rest : List ℕ) → are_atom_bytes a ≡ true → are_atom_bytes b ≡ true
    → begins_with_atom_byte to ≡ false → begins_with_atom_byte rest ≡ false → a ++ to ≡ b ++ rest → (a ≡ b) × (to ≡ rest)
run_unique [] [] to rest p q n m e = (refl, e)
run_unique [] (x ∷ b) to rest p q n m e =
    let w : is_atom_byte x ≡ false = subst (λ z. begins_with_atom_byte z ≡ false) e n in
    let v : is_atom_byte x ≡ true = (both _ _ q).0 in cc
run_unique (x ∷ a) [] to rest p q n m e =
    let w : is_atom_byte x ≡ false = subst (λ z. begins_with_atom_byte z ≡ false) (sym e) m in
    let v : is_atom_byte x ≡ true = (both _ _ p).0 in cc
run_unique (x ∷ a) (y ∷ b) to rest p q n m e =
    let k : a ++ to ≡ b ++ rest = cc in
    let h : x ≡ y = cc in
    let (i, j) = run_unique a b to rest (both _ _ p).1 (both _ _ q).1 n m k in
    (cc, j)

piece_unique : (z w : ℕ) (from to rest : List ℕ) → PieceAt z from to → PieceAt w from rest → (z ≡ w) × (to ≡ rest)
piece_unique z w from to rest (inl (p, e)) (inl (q, f)) = (cc, cc)
piece_unique z w from to rest (inl (p, e)) (inr (x, q, f)) =
    let h : z ≡ 92 = cc in
    let r : is_plain_byte 92 ≡ true = subst (λ y. is_plain_byte y ≡ true) h p in cc
piece_unique z w from to rest (inr (x, p, e)) (inl (q, f)) =
    let h : w ≡ 92 = cc in
    let r : is_plain_byte 92 ≡ true = subst (λ y. is_plain_byte y ≡ true) h q in cc
piece_unique z w from to rest (inr (x, p, e)) (inr (y, q, f)) =
    let h : x ≡ y = cc in
    let k : escape_meaning x ≡ Some w = subst (λ v. escape_meaning v ≡ Some w) (sym h) q in
    (cc, cc)

pieces_unique : (x y from to rest : List ℕ) → PiecesAt x from to → PiecesAt y from rest → (x ≡ y) × (to ≡ rest)
pieces_unique [] [] from to rest h k = (refl, cc)
pieces_unique [] (w ∷ y) from to rest h (r, p, k) = absurd (piece_quote w to r (subst (λ z. PieceAt w z r) h p))
pieces_unique (z ∷ x) [] from to rest (r, p, h) k = absurd (piece_quote z rest r (subst (λ v. PieceAt z v r) k p))
pieces_unique (z ∷ x) (w ∷ y) from to rest (r, p, h) (s, q, k) =
    let (e, f) = piece_unique z w from r s p q in
    let (i, j) = pieces_unique x y r to rest h (subst (λ v. PiecesAt y v rest) (sym f) k) in
    (cc, j)

tree_no_end : (u : PlainTree) (bs rest : List ℕ) → TreeAt u (41 ∷ bs) rest → ⊥
tree_no_end u bs rest h = none_from u 41 (λ e. omega arith) (λ e. omega arith) refl (begins u 41 bs rest h)

mutual
  tree_unique : (u v : PlainTree) (from to rest : List ℕ) → TreeAt u from to → TreeAt v from rest → (u ≡ v) × (to ≡ rest)
  tree_unique u v [] to rest h k = absurd (no_tree u to h)
  tree_unique (atom a) (atom b) (x ∷ xs) to rest (n, all, e, f) (m, every, g, i) =
      let (p, q) = run_unique a b to rest all every f i (sym e ∙ g) in
      (ap atom p, q)
  tree_unique (text a) (text b) (x ∷ xs) to rest (inside, e, h) (within, f, k) =
      let s : within ≡ inside = cc in
      let (p, q) = pieces_unique a b inside to rest h (subst (λ z. PiecesAt b z rest) s k) in
      (ap text p, q)
  tree_unique (list ts) (list us) (x ∷ xs) to rest (inside, e, h) (within, f, k) =
      let s : within ≡ inside = cc in
      let (p, q) = trees_unique ts us inside to rest h (subst (λ z. TreesAt us z rest) s k) in
      (ap list p, q)
  tree_unique (atom a) (text b) (x ∷ xs) to rest h k =
      let p = begins (atom a) x xs to h in
      let q = begins (text b) x xs rest k in
      let r : is_atom_byte 34 ≡ true = subst (λ z. is_atom_byte z ≡ true) q p in cc
  tree_unique (atom a) (list us) (x ∷ xs) to rest h k =
      let p = begins (atom a) x xs to h in
      let q = begins (list us) x xs rest k in
      let r : is_atom_byte 40 ≡ true = subst (λ z. is_atom_byte z ≡ true) q p in cc
  tree_unique (text b) (atom a) (x ∷ xs) to rest h k =
      let p = begins (atom a) x xs rest k in
      let q = begins (text b) x xs to h in
      let r : is_atom_byte 34 ≡ true = subst (λ z. is_atom_byte z ≡ true) q p in cc
  tree_unique (text b) (list us) (x ∷ xs) to rest h k = absurd (apart x 40 (begins (text b) x xs to h) (begins (list us) x xs rest k) (inr refl))
  tree_unique (list us) (atom a) (x ∷ xs) to rest h k =
      let p = begins (atom a) x xs rest k in
      let q = begins (list us) x xs to h in
      let r : is_atom_byte 40 ≡ true = subst (λ z. is_atom_byte z ≡ true) q p in cc
  tree_unique (list us) (text b) (x ∷ xs) to rest h k = absurd (apart x 40 (begins (text b) x xs rest k) (begins (list us) x xs to h) (inr refl))

  trees_unique : (ts us : PlainTrees) (from to rest : List ℕ) → TreesAt ts from to → TreesAt us from rest → (ts ≡ us) × (to ≡ rest)
  trees_unique none none from to rest h k = let e : 41 ∷ to ≡ 41 ∷ rest = sym h ∙ k in (refl, cc)
  trees_unique none (more v us) from to rest h (r, k, l) = absurd (tree_no_end v to r (subst (λ z. TreeAt v z r) h k))
  trees_unique (more u ts) none from to rest (r, h, i) k = absurd (tree_no_end u rest r (subst (λ z. TreeAt u z r) k h))
  trees_unique (more u ts) (more v us) from to rest (r, h, i) (s, k, l) =
      let (e, f) = tree_unique u v (skip from) r s h k in
      let (p, q) = trees_unique ts us r to rest i (subst (λ z. TreesAt us z rest) (sym f) l) in
      (cc, q)

pub spells_one : (bytes : List ℕ) (t u : PlainTree) → Spells bytes t → Spells bytes u → t ≡ u
spells_one bytes t u (to, h, e) (rest, k, f) = (tree_unique t u (skip bytes) to rest h k).0

-- How many bytes each part of the grammar takes.
skip_shorter : (bs : List ℕ) → length (skip bs) ≤ length bs
skip_shorter [] = omega arith
skip_shorter (b ∷ bs) = let n = skipped (is_white b) b bs refl (skip_shorter bs) in omega arith
  where
    skipped : (w : _) (b : ℕ) (bs : List ℕ) → is_white b ≡ w → length (skip bs) ≤ length bs → length (skip (b ∷ bs)) ≤ length bs + 1
    skipped true b bs e n = let m : length (skip (b ∷ bs)) ≡ length (skip bs) = ap length (skip_white b bs e) in omega arith
    skipped false b bs e n = let m : length (skip (b ∷ bs)) ≡ length (b ∷ bs) = ap length (skip_other b bs e) in omega arith

piece_long : (z : ℕ) (from to : List ℕ) → PieceAt z from to → length to < length from
piece_long z from to (inl (p, e)) = let m : length from ≡ length (z ∷ to) = ap length e in omega arith
piece_long z from to (inr (x, p, e)) = let m : length from ≡ length (92 ∷ x ∷ to) = ap length e in omega arith

pieces_long : (x from to : List ℕ) → PiecesAt x from to → length to < length from
pieces_long [] from to h = let m : length from ≡ length (34 ∷ to) = ap length h in omega arith
pieces_long (z ∷ x) from to (rest, p, h) =
    let n = pieces_long x rest to h in
    let m = piece_long z from rest p in
    omega arith

mutual
  tree_wide : (u : PlainTree) (from to : List ℕ) → TreeAt u from to → (widest u + length to ≤ length from) × (length to < length from)
  tree_wide (atom []) from to (n, all, e, f) = absurd (n refl)
  tree_wide (atom (x ∷ a)) from to (n, all, e, f) =
      let m : length from ≡ length (x ∷ (a ++ to)) = ap length e in
      let k = length-append a to in
      (omega arith, omega arith)
  tree_wide (text x) from to (inside, e, h) =
      let m : length from ≡ length (34 ∷ inside) = ap length e in
      let k = pieces_long x inside to h in
      (omega arith, omega arith)
  tree_wide (list ts) from to (inside, e, h) =
      let m : length from ≡ length (40 ∷ inside) = ap length e in
      let (i, j) = trees_wide ts inside to h in
      (omega arith, omega arith)

  trees_wide : (ts : PlainTrees) (from to : List ℕ) → TreesAt ts from to → (widest_all ts + length to ≤ length from) × (length (tree_list ts) + length to < length from)
  trees_wide none from to h =
      let m : length (skip from) ≡ length (41 ∷ to) = ap length h in
      let n = skip_shorter from in
      (omega arith, omega arith)
  trees_wide (more u ts) from to (rest, h, k) =
      let n = skip_shorter from in
      let (i, j) = tree_wide u (skip from) rest h in
      let (l, m) = trees_wide ts rest to k in
      (omega arith, omega arith)

pub spells_wide : (bytes : List ℕ) (t : PlainTree) → Spells bytes t → widest t ≤ length bytes
spells_wide bytes t (to, h, e) =
    let n = skip_shorter bytes in
    let (i, j) = tree_wide t (skip bytes) to h in
    omega arith
