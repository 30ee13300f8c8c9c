-- How trees represent words, names and lists.
use Rattle.std.specs.Prelude.{ℕ, ◌+◌, if◌then◌else◌, Option, List, [], ◌∷◌}
use Rattle.jac_tree.specs.Plain.{PlainTree, PlainTrees}
use Rattle.jac_value.specs.Names.{is_name}
use Rattle.jac_forms.specs.Places.{child}
use Rattle.jac_forms.specs.Reads.{Read, got, wrong, read_map, read_and_then, value_of}
use Rattle.jac_forms.specs.declared.fault.Want.{Want}
use Rattle.jac_forms.specs.declared.fault.Want.TheVariants as wants

-- What is read from each tree. The first tree is child `k` of the list at this path.
abbrev pub each_in_trees : {A : Type 0} → (List ℕ → PlainTree → Read A) → List ℕ → ℕ → PlainTrees
    → Read (List A)
each_in_trees read at k PlainTrees.none = got []
each_in_trees read at k (PlainTrees.more t ts) =
    read_and_then (λ first. read_map (λ rest. first ∷ rest) (each_in_trees read at (k + 1) ts))
    (read (child at k) t)

-- The bytes, if they are a name.
abbrev pub name_read : Want → List ℕ → List ℕ → Read (List ℕ)
name_read want at a = if is_name a then got a else wrong want at

-- The name that a tree represents.
abbrev pub name_in_tree : List ℕ → PlainTree → Read (List ℕ)
name_in_tree at (PlainTree.atom a) = name_read wants.Name at a
name_in_tree at t = wrong wants.Name at

-- The same, without the fault.
abbrev pub name_of_tree : PlainTree → Option (List ℕ)
name_of_tree t = value_of (name_in_tree [] t)
