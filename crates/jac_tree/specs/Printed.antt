-- The bytes that a tree is printed as. They have no unneeded spaces.
use Rattle.std.specs.Prelude.{◌≡◌, ◌≢◌, ℕ, ◌==◌, true, List, [], ◌∷◌, ◌++◌, if◌then◌else◌}
use Rattle.jac_tree.specs.Grammar.{are_atom_bytes}
use Rattle.jac_tree.specs.Plain.{PlainTree, PlainTrees}

-- A byte of a text as it is printed between quotes: `\n`, `\r`, `\t`, `\\`, `\"` or the byte
-- itself.
abbrev pub text_piece : ℕ → List ℕ
text_piece b =
    if b == 10 then 92 ∷ 110 ∷ []
    else if b == 13 then 92 ∷ 114 ∷ []
    else if b == 9 then 92 ∷ 116 ∷ []
    else if b == 92 then 92 ∷ 92 ∷ []
    else if b == 34 then 92 ∷ 34 ∷ []
    else b ∷ []

abbrev pub text_pieces : List ℕ → List ℕ
text_pieces [] = []
text_pieces (b ∷ bs) = text_piece b ++ text_pieces bs

-- An atom is printed as it is, a text in quotes, a list in brackets with one space between
-- neighbours.
abbrev mutual
  pub printed_tree : PlainTree → List ℕ
  printed_tree (PlainTree.atom a) = a
  printed_tree (PlainTree.text x) = 34 ∷ (text_pieces x ++ 34 ∷ [])
  printed_tree (PlainTree.list ts) = 40 ∷ (printed_all ts ++ 41 ∷ [])

  pub printed_all : PlainTrees → List ℕ
  printed_all PlainTrees.none = []
  printed_all (PlainTrees.more t ts) = printed_tree t ++ printed_after ts

  -- The trees that follow another one.
  pub printed_after : PlainTrees → List ℕ
  printed_after PlainTrees.none = []
  printed_after (PlainTrees.more t ts) = 32 ∷ (printed_tree t ++ printed_after ts)

-- Each atom of the tree has one or more bytes, all of them bytes of atoms.
abbrev mutual
  pub HasAtoms : PlainTree → Type 0
  HasAtoms (PlainTree.atom a) = (a ≢ []) × (are_atom_bytes a ≡ true)
  HasAtoms (PlainTree.text x) = Unit {0}
  HasAtoms (PlainTree.list ts) = HaveAtoms ts

  pub HaveAtoms : PlainTrees → Type 0
  HaveAtoms PlainTrees.none = Unit {0}
  HaveAtoms (PlainTrees.more t ts) = HasAtoms t × HaveAtoms ts
