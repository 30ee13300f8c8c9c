-- The result of reading a tree: a value, or its first fault.
use Rattle.std.specs.Prelude.{ℕ, nat_le, if◌then◌else◌, Option, Some, None, List}
use Rattle.jac_tree.specs.Plain.{PlainTrees}
use Rattle.jac_forms.specs.declared.fault.FormFault.{FormFault}
use Rattle.jac_forms.specs.declared.fault.FormFault.TheVariants as faults
use Rattle.jac_forms.specs.declared.fault.Want.{Want}
use Rattle.jac_forms.specs.declared.fault.What.{What}

pub data Read (A : Type 0) : Type 0 where
  got : A → Read A
  refused : FormFault → Read A

-- The tree at this path isn't what is wanted there.
abbrev pub wrong : {A : Type 0} → Want → List ℕ → Read A
wrong want at = refused (faults.Form at want)

-- The tree at this path has this many of these, which is too many.
abbrev pub many : {A : Type 0} → What → List ℕ → ℕ → Read A
many what at have = refused (faults.TooMany at what have)

abbrev pub read_map : {A B : Type 0} → (A → B) → Read A → Read B
read_map f (got x) = got (f x)
read_map f (refused fault) = refused fault

abbrev pub read_and_then : {A B : Type 0} → (A → Read B) → Read A → Read B
read_and_then f (got x) = f x
read_and_then f (refused fault) = refused fault

-- The result of reading, if there are at most `most`.
abbrev pub up_to : {A : Type 0} → What → List ℕ → ℕ → ℕ → Read A → Read A
up_to what at most n read = if nat_le n most then read else many what at n

-- The value, if there is one.
abbrev pub got_where : {A : Type 0} → Want → List ℕ → Option A → Read A
got_where want at (Some x) = got x
got_where want at None = wrong want at

-- What is read from the trees after a head, if the tree has that head.
abbrev pub read_behind : {A : Type 0} → Want → List ℕ → (PlainTrees → Read A) → Option PlainTrees
    → Read A
read_behind want at read (Some ts) = read ts
read_behind want at read None = wrong want at

-- The value, if there is no fault.
abbrev pub value_of : {A : Type 0} → Read A → Option A
value_of (got x) = Some x
value_of (refused fault) = None
