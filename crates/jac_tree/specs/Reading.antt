-- The bytes that complete a document after a reader read a part of it. The open lists are given
-- from the innermost out, each with its trees so far in reverse order.
use Rattle.std.specs.Prelude.{◌≡◌, ℕ, ◌+◌, ◌<◌, ◌≤◌, ◌↔◌, true, false, List, [], ◌∷◌, ◌++◌, length, take, Result, Ok, Err, string_bytes}
use Rattle.jac_tree.specs.declared.fault.TreeFault.{TreeFault}
use Rattle.jac_tree.specs.declared.fault.TreeFault.TheVariants as faults
use Rattle.jac_tree.specs.declared.read.Mode.{Mode}
use Rattle.jac_tree.specs.declared.read.Mode.TheVariants as modes
use Rattle.jac_tree.specs.declared.read.Place.{Place}
use Rattle.jac_tree.specs.declared.read.Place.TheVariants as places
use Rattle.jac_tree.specs.declared.tree.Tree.{Tree}
use Rattle.jac_tree.specs.declared.tree.Trees.{Trees}
use Rattle.jac_tree.specs.Grammar.{skip, are_atom_bytes, begins_with_atom_byte, PiecesAt, TreeAt, TreesAt, Spells, IsStrayAt, IsDeepAt, IsUnclosedAt}
use Rattle.jac_tree.specs.Mirror.{plain, plain_all}
use Rattle.jac_tree.specs.Plain.{PlainTree, PlainTrees, onto, nesting, nesting_all}

-- The open lists of a stack, the innermost first. On the stack it is the last.
abbrev pub open_lists : List Trees → List PlainTrees
open_lists [] = []
open_lists (ts ∷ stack) = open_lists stack ++ plain_all ts ∷ []

-- The tree `u` was read inside the open lists, and the bytes complete the document of `t`.
abbrev pub After : List PlainTrees → PlainTree → List ℕ → PlainTree → Type 0
After [] u bytes t = (skip bytes ≡ []) × (t ≡ u)
After (g ∷ gs) u bytes t =
    (ts : PlainTrees) × (to : List ℕ) × TreesAt ts bytes to
    × After gs (PlainTree.list (onto (PlainTrees.more u g) ts)) to t

-- The next item is a tree or the end of the innermost list, and the bytes complete the document of
-- `t`.
abbrev pub Between : List PlainTrees → List ℕ → PlainTree → Type 0
Between [] bytes t = (u : PlainTree) × (to : List ℕ) × TreeAt u (skip bytes) to × After [] u to t
Between (g ∷ gs) bytes t =
    (ts : PlainTrees) × (to : List ℕ) × TreesAt ts bytes to × After gs (PlainTree.list (onto g ts))
    to t

-- The bytes `a` of an atom were read, and the bytes complete the document of `t`.
abbrev pub InsideAtom : List PlainTrees → List ℕ → List ℕ → PlainTree → Type 0
InsideAtom gs a bytes t =
    (b : List ℕ) × (to : List ℕ) × (are_atom_bytes b ≡ true) × (bytes ≡ b ++ to)
    × (begins_with_atom_byte to ≡ false)
    × After gs (PlainTree.atom (a ++ b)) to t

-- The bytes `x` of a text were read, and the bytes complete the document of `t`.
abbrev pub InsideText : List PlainTrees → List ℕ → List ℕ → PlainTree → Type 0
InsideText gs x bytes t = (y : List ℕ) × (to : List ℕ) × PiecesAt y bytes to
    × After gs (PlainTree.text (x ++ y)) to t

abbrev pub CompletesPlace : List PlainTrees → Place → List ℕ → PlainTree → Type 0
CompletesPlace gs places.Open bytes t = Between gs bytes t
CompletesPlace gs (places.Complete u) bytes t = (skip bytes ≡ []) × (t ≡ plain u)

-- The bytes complete the document of `t`.
abbrev pub Completes : List PlainTrees → Mode → List ℕ → PlainTree → Type 0
Completes gs (modes.Outside place) bytes t = CompletesPlace gs place bytes t
Completes gs (modes.InAtom a) bytes t = InsideAtom gs (string_bytes a) bytes t
Completes gs (modes.InText x) bytes t = InsideText gs (string_bytes x) bytes t
Completes gs (modes.InEscape x) bytes t = InsideText gs (string_bytes x) (92 ∷ bytes) t

-- The bytes `front` take a reader from the first state to the second.
abbrev pub StepsReader : List PlainTrees → Mode → List ℕ → List PlainTrees → Mode → Type 0
StepsReader gs mode front hs next = (rest : List ℕ) (t : PlainTree) → Completes gs mode (front
    ++ rest) t
    ↔ Completes hs next rest t

-- No document continues with the first byte of `front`.
abbrev pub IsStuck : List PlainTrees → Mode → List ℕ → Type 0
IsStuck gs mode front = (rest : List ℕ) (t : PlainTree)
    → ¬ (Completes gs mode (take 1 front ++ rest) t)

-- The first byte of `front` is an opening bracket. Documents continue with it, but only documents
-- of trees that nest deeper than 64.
abbrev pub IsTooDeep : List PlainTrees → Mode → List ℕ → Type 0
IsTooDeep gs mode front =
    (take 1 front ≡ 40 ∷ [])
    × ((rest : List ℕ) × (t : PlainTree) × Completes gs mode (take 1 front ++ rest) t)
    × ((rest : List ℕ) (t : PlainTree) → Completes gs mode (take 1 front ++ rest) t
    → 64 < nesting t)

-- The fault at the place `at`, with its cause.
abbrev pub FaultsFor : List PlainTrees → Mode → List ℕ → ℕ → TreeFault → Type 0
FaultsFor gs mode front at faults.Memory = Unit {0}
FaultsFor gs mode front at (faults.Stray n) = (n ≡ at) × IsStuck gs mode front
FaultsFor gs mode front at (faults.Deep n) = (n ≡ at) × IsTooDeep gs mode front
FaultsFor gs mode front at faults.Long = ⊥
FaultsFor gs mode front at (faults.NotUtf8 n) = ⊥
FaultsFor gs mode front at (faults.Unclosed n) = ⊥

-- A step over the bytes `front`, which are at the place `at`.
abbrev pub Goes : List PlainTrees → Mode → List ℕ → ℕ → List PlainTrees → Result Mode TreeFault
    → Type 0
Goes gs mode front at hs (Ok next) = StepsReader gs mode front hs next
Goes gs mode front at hs (Err fault) = FaultsFor gs mode front at fault

-- The trees of each open list leave room for the lists around it: 64 levels in all.
abbrev pub AreShallow : List PlainTrees → Type 0
AreShallow [] = Unit {0}
AreShallow (g ∷ gs) = (nesting_all g + length (g ∷ gs) ≤ 64) × AreShallow gs

abbrev pub IsShallowPlace : Place → Type 0
IsShallowPlace places.Open = Unit {0}
IsShallowPlace (places.Complete u) = nesting (plain u) ≤ 64

-- The trees that were read nest at most 64 deep.
abbrev pub IsShallow : List PlainTrees → Mode → Type 0
IsShallow gs (modes.Outside place) = AreShallow gs × IsShallowPlace place
IsShallow gs (modes.InAtom a) = AreShallow gs
IsShallow gs (modes.InText x) = AreShallow gs
IsShallow gs (modes.InEscape x) = AreShallow gs

-- After the tree `u` ends inside the lists `gs`, the reader is in the lists `hs` at this place.
abbrev pub Settles : List PlainTrees → PlainTree → List PlainTrees → Place → Type 0
Settles gs u hs place = (rest : List ℕ) (t : PlainTree) → After gs u rest t ↔ CompletesPlace hs
    place rest t

-- The result at the end of the bytes, which is the place `at`.
abbrev pub FinishesTree : List PlainTrees → Mode → ℕ → Result Tree TreeFault → Type 0
FinishesTree gs mode at (Ok tree) = (t : PlainTree) → Completes gs mode [] t ↔ (t ≡ plain tree)
FinishesTree gs mode at (Err fault) = (fault ≡ faults.Unclosed at)
    × ((t : PlainTree) → ¬ (Completes gs mode [] t))

-- The fault of bytes that are UTF-8 and not too long.
abbrev pub HasFault : List ℕ → TreeFault → Type 0
HasFault bytes faults.Memory = Unit {0}
HasFault bytes (faults.Stray at) = IsStrayAt bytes at
HasFault bytes (faults.Deep at) = IsDeepAt bytes at
HasFault bytes (faults.Unclosed at) = IsUnclosedAt bytes at
HasFault bytes faults.Long = ⊥
HasFault bytes (faults.NotUtf8 at) = ⊥

-- The bytes spell the tree that was read, and no other.
abbrev pub ReadsTree : List ℕ → Result Tree TreeFault → Type 0
ReadsTree bytes (Ok tree) = (nesting (plain tree) ≤ 64)
    × ((t : PlainTree) → Spells bytes t ↔ (t ≡ plain tree))
ReadsTree bytes (Err fault) = HasFault bytes fault
