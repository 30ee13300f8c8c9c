-- A known text is read by computing, and the result is its tree.
use Rattle.std.proofs.Common.{◌≡◌, ◌≢◌, refl, sym, ◌∙◌, ap, subst, ℕ, zero, suc, Bool, true, false, ◌&&◌, if◌then◌else◌, ◌==◌, Option, Some, None, List, [], ◌∷◌, ◌++◌, inl, inr, IfSome, arith}
use Rattle.std.proofs.lemmas.Bool.{cases_eq}
use Rattle.std.proofs.lemmas.Bool.Decides.{nat_tests}
use Rattle.jac_value.specs.Names.{is_atom_byte}
use Rattle.jac_tree.specs.Plain.{PlainTree, PlainTrees}
use Rattle.jac_tree.specs.Grammar.{skip, are_atom_bytes, begins_with_atom_byte, is_plain_byte, PiecesAt, TreeAt, TreesAt}

-- What was read, and the bytes after it.
pub record Front (A : Type 0) : Type 0 where
  pub what : A
  pub behind : List ℕ

abbrev pub front : {A : Type 0} → A → List ℕ → Front A
front what behind = record { what = what; behind = behind }

-- The same bytes are left, but what was read is part of something greater.
abbrev pub mapped : {A B : Type 0} → (A → B) → Option (Front A) → Option (Front B)
mapped f None = None
mapped f (Some got) = Some (front (f got.what) got.behind)

-- The longest run of atom bytes.
abbrev pub run_at : List ℕ → Front (List ℕ)
run_at [] = front [] []
run_at (b ∷ bs) = if is_atom_byte b then front (b ∷ (run_at bs).what) (run_at bs).behind else front [] (b ∷ bs)

abbrev pub atom_at : List ℕ → Option (Front PlainTree)
atom_at [] = None
atom_at (b ∷ bs) = if is_atom_byte b then Some (front (PlainTree.atom (run_at (b ∷ bs)).what) (run_at (b ∷ bs)).behind) else None

-- The inside of a text without escapes.
abbrev pub pieces_at : List ℕ → Option (Front (List ℕ))
pieces_at [] = None
pieces_at (b ∷ bs) = if b == 34 then Some (front [] bs) else if b == 92 then None else mapped (λ xs. b ∷ xs) (pieces_at bs)

-- The first tree, and then the others.
abbrev pub and_more : Option (Front PlainTree) → (List ℕ → Option (Front PlainTrees)) → Option (Front PlainTrees)
and_more None others = None
and_more (Some first) others = mapped (λ ts. PlainTrees.more first.what ts) (others first.behind)

-- No trees if the first byte closes the bracket. If not, these trees.
abbrev pub closed_or : List ℕ → Option (Front PlainTrees) → Option (Front PlainTrees)
closed_or [] trees = None
closed_or (b ∷ bs) trees = if b == 41 then Some (front PlainTrees.none bs) else trees

-- A tree, and the trees up to a closing bracket, in at most so many steps.
abbrev mutual
  pub tree_at : ℕ → List ℕ → Option (Front PlainTree)
  tree_at zero from = None
  tree_at (suc n) [] = None
  tree_at (suc n) (b ∷ bs) =
      if b == 40 then mapped PlainTree.list (trees_at n bs)
      else if b == 34 then mapped PlainTree.text (pieces_at bs)
      else atom_at (b ∷ bs)

  pub trees_at : ℕ → List ℕ → Option (Front PlainTrees)
  trees_at zero from = None
  trees_at (suc n) from = closed_or (skip from) (and_more (tree_at n (skip from)) (λ to. trees_at n to))

abbrev pub IsTreeOf : List ℕ → Front PlainTree → Type 0
IsTreeOf from f = TreeAt f.what from f.behind

abbrev pub AreTreesOf : List ℕ → Front PlainTrees → Type 0
AreTreesOf from f = TreesAt f.what from f.behind

abbrev pub ArePiecesOf : List ℕ → Front (List ℕ) → Type 0
ArePiecesOf from f = PiecesAt f.what from f.behind

record IsRunOf (from : List ℕ) (f : Front (List ℕ)) : Type 0 where
  atoms : are_atom_bytes f.what ≡ true
  whole : from ≡ f.what ++ f.behind
  longest : begins_with_atom_byte f.behind ≡ false

mapped_some : {A B : Type 0} (f : A → B) (o : Option (Front A)) (P : Front A → Type 0) (Q : Front B → Type 0)
    → IfSome o P → ((a : Front A) → P a → Q (front (f a.what) a.behind)) → IfSome (mapped f o) Q
mapped_some f None P Q h step = tt
mapped_some f (Some a) P Q h step = step a h

run_step : (t : Bool) (b : ℕ) (bs : List ℕ) (f : Front (List ℕ)) → is_atom_byte b ≡ t → IsRunOf bs f
    → IsRunOf (b ∷ bs) (if t then front (b ∷ f.what) f.behind else front [] (b ∷ bs))
run_step true b bs f e h = record {
  atoms = ap (λ z. z && are_atom_bytes f.what) e ∙ h.atoms;
  whole = ap (λ z. b ∷ z) h.whole;
  longest = h.longest;
}
run_step false b bs f e h = record { atoms = refl; whole = refl; longest = e }

is_run : (from : List ℕ) → IsRunOf from (run_at from)
is_run [] = record { atoms = refl; whole = refl; longest = refl }
is_run (b ∷ bs) = run_step (is_atom_byte b) b bs (run_at bs) refl (is_run bs)

some_run : (b : ℕ) (bs : List ℕ) → is_atom_byte b ≡ true → (run_at (b ∷ bs)).what ≢ []
some_run b bs e empty =
    let begins : (run_at (b ∷ bs)).what ≡ b ∷ (run_at bs).what = ap (λ (z : Bool). (if z then front (b ∷ (run_at bs).what) (run_at bs).behind else front [] (b ∷ bs)).what) e in cc

atom_step : (t : Bool) (b : ℕ) (bs : List ℕ) → is_atom_byte b ≡ t
    → IfSome (if t then Some (front (PlainTree.atom (run_at (b ∷ bs)).what) (run_at (b ∷ bs)).behind) else None) (IsTreeOf (b ∷ bs))
atom_step true b bs e =
    let run : IsRunOf (b ∷ bs) (run_at (b ∷ bs)) = is_run (b ∷ bs) in (some_run b bs e, run.atoms, run.whole, run.longest)
atom_step false b bs e = tt

other : (a b : ℕ) → a ≢ b → (a == b) ≡ false
other a b ne = grind (arith, nat_tests)

plain_byte : (b : ℕ) → b ≢ 34 → b ≢ 92 → is_plain_byte b ≡ true
plain_byte b p q = grind (arith, nat_tests)

are_pieces : (from : List ℕ) → IfSome (pieces_at from) (ArePiecesOf from)
are_pieces [] = tt
are_pieces (b ∷ bs) = elim (cases_eq b 34) [
  | inl e ↦ subst (λ z. IfSome (pieces_at (z ∷ bs)) (ArePiecesOf (z ∷ bs))) (sym e) refl
  | inr p ↦ elim (cases_eq b 92) [
    | inl e ↦ subst (λ z. IfSome (pieces_at (z ∷ bs)) (ArePiecesOf (z ∷ bs))) (sym e) tt
    | inr q ↦
        let more : IfSome (mapped (λ xs. b ∷ xs) (pieces_at bs)) (ArePiecesOf (b ∷ bs)) =
        mapped_some (λ xs. b ∷ xs) (pieces_at bs) (ArePiecesOf bs) (ArePiecesOf (b ∷ bs)) (are_pieces bs) (λ a h. (bs, inl (plain_byte b p q, refl), h)) in
        rw (other b 34 p, other b 92 q) more
  ]
]

more_trees : (from : List ℕ) (o : Option (Front PlainTree)) (others : List ℕ → Option (Front PlainTrees))
    → IfSome o (IsTreeOf (skip from)) → ((to : List ℕ) → IfSome (others to) (AreTreesOf to)) → IfSome (and_more o others) (AreTreesOf from)
more_trees from None others h k = tt
more_trees from (Some first) others h k =
    mapped_some (λ ts. PlainTrees.more first.what ts) (others first.behind) (AreTreesOf first.behind) (AreTreesOf from) (k first.behind) (λ a rest. (first.behind, h, rest))

closed_trees : (from s : List ℕ) (o : Option (Front PlainTrees)) → skip from ≡ s → IfSome o (AreTreesOf from) → IfSome (closed_or s o) (AreTreesOf from)
closed_trees from [] o e h = tt
closed_trees from (b ∷ bs) o e h = elim (cases_eq b 41) [
  | inl is ↦ rw (is) (e ∙ ap (λ z. z ∷ bs) is)
  | inr ne ↦ rw (other b 41 ne) h
]

mutual
  -- The bytes begin with the tree that is computed.
  pub is_tree : (n : ℕ) (from : List ℕ) → IfSome (tree_at n from) (IsTreeOf from)
  is_tree zero from = tt
  is_tree (suc n) [] = tt
  is_tree (suc n) (b ∷ bs) = elim (cases_eq b 40) [
    | inl e ↦ subst (λ z. IfSome (tree_at (suc n) (z ∷ bs)) (IsTreeOf (z ∷ bs))) (sym e)
        (mapped_some PlainTree.list (trees_at n bs) (AreTreesOf bs) (IsTreeOf (40 ∷ bs)) (are_trees n bs) (λ a h. (bs, refl, h)))
    | inr p ↦ elim (cases_eq b 34) [
      | inl e ↦ subst (λ z. IfSome (tree_at (suc n) (z ∷ bs)) (IsTreeOf (z ∷ bs))) (sym e)
          (mapped_some PlainTree.text (pieces_at bs) (ArePiecesOf bs) (IsTreeOf (34 ∷ bs)) (are_pieces bs) (λ a h. (bs, refl, h)))
      | inr q ↦
          let atom : IfSome (atom_at (b ∷ bs)) (IsTreeOf (b ∷ bs)) = atom_step (is_atom_byte b) b bs refl in
          rw (other b 40 p, other b 34 q) atom
    ]
  ]

  pub are_trees : (n : ℕ) (from : List ℕ) → IfSome (trees_at n from) (AreTreesOf from)
  are_trees zero from = tt
  are_trees (suc n) from =
      closed_trees from (skip from) (and_more (tree_at n (skip from)) (λ to. trees_at n to)) refl
      (more_trees from (tree_at n (skip from)) (λ to. trees_at n to) (is_tree n (skip from)) (λ to. are_trees n to))
