-- The grammar of trees: which bytes are the text of which tree.
use Rattle.std.specs.Prelude.{◌≡◌, ◌≢◌, ◌+◌, ◌<◌, ◌≤◌, ℕ, Bool, true, false, not, ◌||◌, ◌==◌, ◌⊎◌, List, [], ◌∷◌, ◌++◌, length, take, slice_index, Option, Some, None, if◌then◌else◌, IsUtf8}
use Rattle.std.specs.List.{list_all}
use Rattle.jac_value.specs.Names.{is_atom_byte}
use Rattle.jac_tree.specs.Plain.{PlainTree, PlainTrees, nesting}

-- Whitespace: space, tab, line feed or carriage return.
abbrev pub is_white : ℕ → Bool
is_white b = b == 32 || b == 9 || b == 10 || b == 13

-- The bytes without the whitespace at their front.
abbrev pub skip : List ℕ → List ℕ
skip [] = []
skip (b ∷ bs) = if is_white b then skip bs else b ∷ bs

abbrev pub are_atom_bytes : List ℕ → Bool
are_atom_bytes a = list_all is_atom_byte a

abbrev pub begins_with_atom_byte : List ℕ → Bool
begins_with_atom_byte [] = false
begins_with_atom_byte (b ∷ bs) = is_atom_byte b

-- Any byte that is neither a quote nor a backslash.
abbrev pub is_plain_byte : ℕ → Bool
is_plain_byte b = not (b == 34 || b == 92)

-- The byte that an escape means, by the byte after the backslash: `n`, `r`, `t`, a backslash or a
-- quote.
abbrev pub escape_meaning : ℕ → Option ℕ
escape_meaning e =
    if e == 110 then Some 10
    else if e == 114 then Some 13
    else if e == 116 then Some 9
    else if e == 92 then Some 92
    else if e == 34 then Some 34
    else None

-- `from` begins with a piece that means the byte `x`, and `to` follows it.
abbrev pub PieceAt : ℕ → List ℕ → List ℕ → Type 0
PieceAt x from to =
    ((is_plain_byte x ≡ true) × (from ≡ x ∷ to))
    ⊎ ((e : ℕ) × (escape_meaning e ≡ Some x) × (from ≡ 92 ∷ e ∷ to))

-- `from` begins with pieces that mean the text and then a quote, and `to` follows them.
abbrev pub PiecesAt : List ℕ → List ℕ → List ℕ → Type 0
PiecesAt [] from to = from ≡ 34 ∷ to
PiecesAt (x ∷ xs) from to = (rest : List ℕ) × PieceAt x from rest × PiecesAt xs rest to

-- `from` begins with the tree, and `to` follows it. An atom is as long as possible.
abbrev mutual
  pub TreeAt : PlainTree → List ℕ → List ℕ → Type 0
  TreeAt (PlainTree.atom a) from to =
      (a ≢ []) × (are_atom_bytes a ≡ true) × (from ≡ a ++ to) × (begins_with_atom_byte to ≡ false)
  TreeAt (PlainTree.text x) from to = (inside : List ℕ) × (from ≡ 34 ∷ inside)
      × PiecesAt x inside to
  TreeAt (PlainTree.list ts) from to = (inside : List ℕ) × (from ≡ 40 ∷ inside)
      × TreesAt ts inside to

  -- The trees, with whitespace around them, and then the closing bracket.
  pub TreesAt : PlainTrees → List ℕ → List ℕ → Type 0
  TreesAt PlainTrees.none from to = skip from ≡ 41 ∷ to
  TreesAt (PlainTrees.more t ts) from to = (rest : List ℕ) × TreeAt t (skip from) rest
      × TreesAt ts rest to

-- The bytes are a document: whitespace, the tree, whitespace.
abbrev pub Spells : List ℕ → PlainTree → Type 0
Spells bytes t = (to : List ℕ) × TreeAt t (skip bytes) to × (skip to ≡ [])

-- Some document begins with the bytes. Below: some document whose tree nests at most `n` deep.
abbrev pub IsBegunDocument : List ℕ → Type 0
IsBegunDocument front = (rest : List ℕ) × (t : PlainTree) × Spells (front ++ rest) t

abbrev pub IsBegunWithin : ℕ → List ℕ → Type 0
IsBegunWithin n front = (rest : List ℕ) × (t : PlainTree) × Spells (front ++ rest) t
    × (nesting t ≤ n)

-- The byte at this place is the first with which no document continues.
pub record IsStrayAt (bytes : List ℕ) (at : ℕ) : Type 0 where
  pub within : at < length bytes
  pub before : IsBegunWithin 64 (take at bytes)
  pub after : ¬ (IsBegunDocument (take (at + 1) bytes))

-- The byte at this place opens a list inside 64 lists. It is the first with which only documents of
-- trees deeper than 64 continue.
pub record IsDeepAt (bytes : List ℕ) (at : ℕ) : Type 0 where
  pub within : at < length bytes
  pub opens : slice_index bytes at ≡ 40
  pub before : IsBegunWithin 64 (take at bytes)
  pub after : IsBegunDocument (take (at + 1) bytes)
  pub deeper : ¬ (IsBegunWithin 64 (take (at + 1) bytes))

-- The bytes end at this place. They begin a document, but aren't one.
pub record IsUnclosedAt (bytes : List ℕ) (at : ℕ) : Type 0 where
  pub at_end : at ≡ length bytes
  pub begun : IsBegunWithin 64 bytes
  pub none : (t : PlainTree) → ¬ (Spells bytes t)

-- The tree that the bytes are read as.
pub record Accepted (bytes : List ℕ) (t : PlainTree) : Type 0 where
  pub short : length bytes ≤ 1048576
  pub utf8 : IsUtf8 bytes
  pub spelled : Spells bytes t
  pub shallow : nesting t ≤ 64
