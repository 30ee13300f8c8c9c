-- Trees without their memory addresses.
use Rattle.std.specs.Prelude.{ℕ, ◌+◌, max, Bool, false, if◌then◌else◌, Option, Some, None, List, [], ◌∷◌, length}
use Rattle.std.specs.Str.{bytes_eq}

mutual
  pub data PlainTree : Type 0 where
    atom : List ℕ → PlainTree
    text : List ℕ → PlainTree
    list : PlainTrees → PlainTree

  pub data PlainTrees : Type 0 where
    none : PlainTrees
    more : PlainTree → PlainTrees → PlainTrees

-- The trees of a list, as a list.
abbrev pub tree_list : PlainTrees → List PlainTree
tree_list none = []
tree_list (more t ts) = t ∷ tree_list ts

-- The first trees in reverse order, and then the second.
abbrev pub onto : PlainTrees → PlainTrees → PlainTrees
onto none over = over
onto (more t ts) over = onto ts (more t over)

-- The number of lists around the deepest place of a tree, and the largest such number of several
-- trees.
abbrev mutual
  pub nesting : PlainTree → ℕ
  nesting (atom a) = 0
  nesting (text x) = 0
  nesting (list ts) = nesting_all ts + 1

  pub nesting_all : PlainTrees → ℕ
  nesting_all none = 0
  nesting_all (more t ts) = max (nesting t) (nesting_all ts)

-- The number of trees in the longest list of a tree.
abbrev mutual
  pub widest : PlainTree → ℕ
  widest (atom a) = 0
  widest (text x) = 0
  widest (list ts) = max (length (tree_list ts)) (widest_all ts)

  pub widest_all : PlainTrees → ℕ
  widest_all none = 0
  widest_all (more t ts) = max (widest t) (widest_all ts)

-- The number of trees in a list.
abbrev pub count : PlainTrees → ℕ
count none = 0
count (more t ts) = count ts + 1

-- The tree is this word as an atom.
abbrev pub is_word : List ℕ → PlainTree → Bool
is_word word (atom a) = bytes_eq a word
is_word word (text x) = false
is_word word (list ts) = false

-- The trees of a list after its head, if the head is this word.
abbrev pub tail_of : List ℕ → PlainTree → Option PlainTrees
tail_of word (atom a) = None
tail_of word (text x) = None
tail_of word (list none) = None
tail_of word (list (more w ts)) = if is_word word w then Some ts else None
