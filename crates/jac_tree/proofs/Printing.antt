-- The printed text of a tree spells the tree.
use Rattle.std.proofs.Common.{◌≡◌, ◌≢◌, inl, inr, ℕ, suc, ◌<◌, ◌≤◌, true, false, List, [], ◌∷◌, ◌++◌, length, get_or, refl, sym, ◌∙◌, ap, subst, arith, append_assoc, append-nil, encode_utf8}
use Rattle.std.proofs.lemmas.Bool.{cases_lt, cases_eq}
use Rattle.std.proofs.lemmas.Bool.Decides.{nat_tests}
use Rattle.std.proofs.lemmas.Str.{encode_ascii, inside_one}
use Rattle.jac_value.specs.Names.{is_atom_byte}
use Rattle.jac_tree.specs.Grammar.{is_white, skip, begins_with_atom_byte, PieceAt, PiecesAt, TreeAt, TreesAt, Spells}
use Rattle.jac_tree.specs.Plain.{PlainTree, PlainTrees}
use Rattle.jac_tree.specs.Plain.PlainTree.{atom, text, list}
use Rattle.jac_tree.specs.Plain.PlainTrees.{none, more}
use Rattle.jac_tree.specs.Printed.{text_piece, text_pieces, printed_tree, printed_all, printed_after, HasAtoms, HaveAtoms}
use Rattle.jac_tree.proofs.Bytes.{plain_other}
use Rattle.jac_tree.proofs.Moves.{both, skip_other}

-- A byte without an escape.
abbrev pub IsRaw : ℕ → Type 0
IsRaw b = (b ≢ 10) × (b ≢ 13) × (b ≢ 9) × (b ≢ 92) × (b ≢ 34)

raw_piece : (b : ℕ) → IsRaw b → text_piece b ≡ b ∷ []
raw_piece b (p, q, r, s, t) = grind (arith, nat_tests)

high_raw : (b : ℕ) → 128 ≤ b → IsRaw b
high_raw b h = (λ e. omega arith, λ e. omega arith, λ e. omega arith, λ e. omega arith, λ e. omega arith)

pub pieces_append : (a b : List ℕ) → text_pieces (a ++ b) ≡ text_pieces a ++ text_pieces b
pieces_append [] b = refl
pieces_append (x ∷ a) b = ap (λ z. text_piece x ++ z) (pieces_append a b) ∙ sym (append_assoc (text_piece x) (text_pieces a) (text_pieces b))

high_pieces : (xs : List ℕ) → ((k : ℕ) → k < length xs → 128 ≤ get_or xs k 0) → text_pieces xs ≡ xs
high_pieces [] h = refl
high_pieces (x ∷ xs) h =
    let high : 128 ≤ x = h 0 (omega arith) in
    ap (λ z. z ++ text_pieces xs) (raw_piece x (high_raw x high)) ∙ ap (λ z. x ∷ z) (high_pieces xs (λ k below. h (suc k) (omega arith)))

-- A character without an escape is its own piece.
pub raw_pieces : (c : ℕ) → IsRaw c → text_pieces (encode_utf8 c) ≡ encode_utf8 c
raw_pieces c raw = elim (cases_lt c 128) [
  | inl low ↦ subst (λ z. text_pieces z ≡ z) (sym (encode_ascii c low)) (append-nil (text_piece c) ∙ raw_piece c raw)
  | inr big ↦ high_pieces (encode_utf8 c) (λ k below. elim (cases_lt (get_or (encode_utf8 c) k 0) 128) [
    | inl low ↦ let q : c ≡ get_or (encode_utf8 c) k 0 = inside_one c [] (encode_utf8 c) k (sym (append-nil _)) below low in absurd (omega arith)
    | inr h ↦ h
  ])
]

piece_at : (x : ℕ) (to : List ℕ) → PieceAt x (text_piece x ++ to) to
piece_at x to = elim (cases_eq x 10) [
  | inl e ↦ subst (λ z. PieceAt z (text_piece z ++ to) to) (sym e) (inr (110, refl, refl))
  | inr p ↦ elim (cases_eq x 13) [
    | inl e ↦ subst (λ z. PieceAt z (text_piece z ++ to) to) (sym e) (inr (114, refl, refl))
    | inr q ↦ elim (cases_eq x 9) [
      | inl e ↦ subst (λ z. PieceAt z (text_piece z ++ to) to) (sym e) (inr (116, refl, refl))
      | inr r ↦ elim (cases_eq x 92) [
        | inl e ↦ subst (λ z. PieceAt z (text_piece z ++ to) to) (sym e) (inr (92, refl, refl))
        | inr s ↦ elim (cases_eq x 34) [
          | inl e ↦ subst (λ z. PieceAt z (text_piece z ++ to) to) (sym e) (inr (34, refl, refl))
          | inr t ↦ inl (plain_other x t s, ap (λ z. z ++ to) (raw_piece x (p, q, r, s, t)))
        ]
      ]
    ]
  ]
]

pieces_at : (x to : List ℕ) → PiecesAt x (text_pieces x ++ 34 ∷ to) to
pieces_at [] to = refl
pieces_at (b ∷ x) to =
    let e = append_assoc (text_piece b) (text_pieces x) (34 ∷ to) in
    (text_pieces x ++ 34 ∷ to, subst (λ z. PieceAt b z (text_pieces x ++ 34 ∷ to)) (sym e) (piece_at b (text_pieces x ++ 34 ∷ to)), pieces_at x to)

atom_no_white : (b : ℕ) → is_atom_byte b ≡ true → is_white b ≡ false
atom_no_white b h = grind (arith, nat_tests)

skip_printed : (t : PlainTree) (to : List ℕ) → HasAtoms t → skip (printed_tree t ++ to) ≡ printed_tree t ++ to
skip_printed (atom []) to (ne, all) = absurd (ne refl)
skip_printed (atom (b ∷ a)) to (ne, all) = skip_other b (a ++ to) (atom_no_white b (both _ _ all).0)
skip_printed (text x) to h = refl
skip_printed (list ts) to h = refl

after_ends : (ts : PlainTrees) (to : List ℕ) → begins_with_atom_byte (printed_after ts ++ 41 ∷ to) ≡ false
after_ends none to = refl
after_ends (more t ts) to = refl

mutual
  tree_at : (t : PlainTree) (to : List ℕ) → HasAtoms t → begins_with_atom_byte to ≡ false → TreeAt t (printed_tree t ++ to) to
  tree_at (atom a) to (ne, all) f = (ne, all, refl, f)
  tree_at (text x) to h f =
      let e : (text_pieces x ++ 34 ∷ []) ++ to ≡ text_pieces x ++ 34 ∷ to = append_assoc (text_pieces x) (34 ∷ []) to in
      ((text_pieces x ++ 34 ∷ []) ++ to, refl, subst (λ z. PiecesAt x z to) (sym e) (pieces_at x to))
  tree_at (list ts) to h f =
      let e : (printed_all ts ++ 41 ∷ []) ++ to ≡ printed_all ts ++ 41 ∷ to = append_assoc (printed_all ts) (41 ∷ []) to in
      ((printed_all ts ++ 41 ∷ []) ++ to, refl, subst (λ z. TreesAt ts z to) (sym e) (all_at ts to h))

  all_at : (ts : PlainTrees) (to : List ℕ) → HaveAtoms ts → TreesAt ts (printed_all ts ++ 41 ∷ to) to
  all_at none to h = refl
  all_at (more t ts) to (h, k) =
      let rest = printed_after ts ++ 41 ∷ to in
      let e : (printed_tree t ++ printed_after ts) ++ 41 ∷ to ≡ printed_tree t ++ rest = append_assoc (printed_tree t) (printed_after ts) (41 ∷ to) in
      let s : skip ((printed_tree t ++ printed_after ts) ++ 41 ∷ to) ≡ printed_tree t ++ rest = ap skip e ∙ skip_printed t rest h in
      (rest, subst (λ z. TreeAt t z rest) (sym s) (tree_at t rest h (after_ends ts to)), after_at ts to k)

  after_at : (ts : PlainTrees) (to : List ℕ) → HaveAtoms ts → TreesAt ts (printed_after ts ++ 41 ∷ to) to
  after_at none to h = refl
  after_at (more t ts) to (h, k) =
      let rest = printed_after ts ++ 41 ∷ to in
      let e : (printed_tree t ++ printed_after ts) ++ 41 ∷ to ≡ printed_tree t ++ rest = append_assoc (printed_tree t) (printed_after ts) (41 ∷ to) in
      let s : skip ((printed_tree t ++ printed_after ts) ++ 41 ∷ to) ≡ printed_tree t ++ rest = ap skip e ∙ skip_printed t rest h in
      (rest, subst (λ z. TreeAt t z rest) (sym s) (tree_at t rest h (after_ends ts to)), after_at ts to k)

pub printed_spells : (t : PlainTree) → HasAtoms t → Spells (printed_tree t) t
printed_spells t h =
    let e : skip (printed_tree t) ≡ printed_tree t ++ [] = ap skip (sym (append-nil (printed_tree t))) ∙ skip_printed t [] h in
    ([], subst (λ z. TreeAt t z []) (sym e) (tree_at t [] h refl), refl)

-- The pieces of a character, and then those of the rest.
pub pieces_put : (out front rest left : List ℕ) → left ≡ front ++ rest → (out ++ text_pieces front) ++ text_pieces rest ≡ out ++ text_pieces left
pieces_put out front rest left e =
    append_assoc out (text_pieces front) (text_pieces rest)
    ∙ ap (λ z. out ++ z) (sym (pieces_append front rest))
    ∙ ap (λ z. out ++ text_pieces z) (sym e)

-- In a tree that bytes spell, each atom has one or more bytes, all of them bytes of atoms.
mutual
  tree_atoms : (t : PlainTree) (from to : List ℕ) → TreeAt t from to → HasAtoms t
  tree_atoms (atom a) from to (ne, all, e, f) = (ne, all)
  tree_atoms (text x) from to h = tt
  tree_atoms (list ts) from to (inside, e, h) = all_atoms ts inside to h

  all_atoms : (ts : PlainTrees) (from to : List ℕ) → TreesAt ts from to → HaveAtoms ts
  all_atoms none from to h = tt
  all_atoms (more t ts) from to (rest, h, k) = (tree_atoms t (skip from) rest h, all_atoms ts rest to k)

pub spelled_atoms : (bytes : List ℕ) (t : PlainTree) → Spells bytes t → HasAtoms t
spelled_atoms bytes t (to, h, e) = tree_atoms t (skip bytes) to h
