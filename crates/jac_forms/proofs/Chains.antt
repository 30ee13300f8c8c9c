-- Properties of the value that a chain of reads gives, if it gives one.
use Rattle.std.proofs.Common.{◌≡◌, ℕ, ◌+◌, ◌≤◌, Bool, true, false, nat_le, refl, arith, Option, Some, None, List, ◌∷◌, length}
use Rattle.std.specs.Prelude.{IfSome, if◌then◌else◌}
use Rattle.std.specs.List.{All}
use Rattle.std.proofs.lemmas.Bool.Decides.{nat_tests}
use Rattle.std.proofs.lemmas.List.Elements.{All-nil, All-cons}
use Rattle.jac_tree.specs.Plain.{PlainTree, PlainTrees, count}
use Rattle.jac_forms.specs.Places.{child}
use Rattle.jac_forms.specs.Reads.{Read, got, refused, read_map, read_and_then, up_to, read_behind, got_where}
use Rattle.jac_forms.specs.Names.{each_in_trees}
use Rattle.jac_forms.specs.declared.fault.FormFault.{FormFault}
use Rattle.jac_forms.specs.declared.fault.FormFault.TheVariants as faults
use Rattle.jac_forms.specs.declared.fault.Want.{Want}
use Rattle.jac_forms.specs.declared.fault.What.{What}

-- `P` holds for the value that is read, if there is one.
abbrev pub IfGot : {A : Type 0} → Read A → (A → Type 0) → Type 0
IfGot (got x) P = P x
IfGot (refused fault) P = Unit {0}

-- `P` holds for the value read from the trees after a head.
pub after : {A : Type 0} (P : A → Type 0) (want : Want) (at : List ℕ) (read : PlainTrees → Read A) (o : Option PlainTrees) → ((ts : PlainTrees) → IfGot (read ts) P) → IfGot (read_behind want at read o) P
after P want at read None k = tt
after P want at read (Some ts) k = k ts

pub placed : {A : Type 0} (P : A → Type 0) (want : Want) (at : List ℕ) (o : Option A) → IfSome o P → IfGot (got_where want at o) P
placed P want at None h = tt
placed P want at (Some x) h = h

-- Nothing is known about the first value.
pub freely : {A B : Type 0} (Q : B → Type 0) (f : A → Read B) (o : Read A) → ((x : A) → IfGot (f x) Q) → IfGot (read_and_then f o) Q
freely Q f (refused fault) k = tt
freely Q f (got x) k = k x

-- `P` holds for the first value.
pub chained : {A B : Type 0} (P : A → Type 0) (Q : B → Type 0) (f : A → Read B) (o : Read A) → IfGot o P → ((x : A) → P x → IfGot (f x) Q) → IfGot (read_and_then f o) Q
chained P Q f (refused fault) h k = tt
chained P Q f (got x) h k = k x h

pub mapped : {A B : Type 0} (P : A → Type 0) (Q : B → Type 0) (f : A → B) (o : Read A) → IfGot o P → ((x : A) → P x → Q (f x)) → IfGot (read_map f o) Q
mapped P Q f (refused fault) h k = tt
mapped P Q f (got x) h k = k x h

pub weaker : {A : Type 0} (P Q : A → Type 0) (o : Read A) → IfGot o P → ((x : A) → P x → Q x) → IfGot o Q
weaker P Q (refused fault) h k = tt
weaker P Q (got x) h k = k x h

pub where_true : {A : Type 0} (P : A → Type 0) (b : Bool) (o : Read A) (fault : FormFault) → (b ≡ true → IfGot o P) → IfGot (if b then o else refused fault) P
where_true P true o fault h = h refl
where_true P false o fault h = tt

pub where_false : {A : Type 0} (P : A → Type 0) (b : Bool) (o : Read A) (fault : FormFault) → (b ≡ false → IfGot o P) → IfGot (if b then refused fault else o) P
where_false P true o fault h = tt
where_false P false o fault h = h refl

pub either : {A : Type 0} (P : A → Type 0) (b : Bool) (o p : Read A) → IfGot o P → IfGot p P → IfGot (if b then o else p) P
either P true o p h k = h
either P false o p h k = k

pub within : {A : Type 0} (P : A → Type 0) (what : What) (at : List ℕ) (most n : ℕ) (o : Read A) → (n ≤ most → IfGot o P) → IfGot (up_to what at most n o) P
within P what at most n o h = where_true P (nat_le n most) o (faults.TooMany at what n) (λ e. h (grind (arith, nat_tests)))

-- `P` holds for the value read from each tree of a list, and there are as many values as trees.
pub each : {A : Type 0} (P : A → Type 0) (read : List ℕ → PlainTree → Read A) → ((at : List ℕ) (t : PlainTree) → IfGot (read at t) P)
    → (at : List ℕ) (k : ℕ) (ts : PlainTrees) → IfGot (each_in_trees read at k ts) (λ xs. All P xs × (length xs ≡ count ts))
each P read one at k PlainTrees.none = (All-nil P, refl)
each {A} P read one at k (PlainTrees.more t ts) =
    chained P (λ xs. All P xs × (length xs ≡ count ts + 1)) (λ first. read_map (λ rest. first ∷ rest) (each_in_trees read at (k + 1) ts)) (read (child at k) t) (one (child at k) t) (λ x h.
    mapped (λ (xs : List A). All P xs × (length xs ≡ count ts)) (λ xs. All P xs × (length xs ≡ count ts + 1)) (λ rest. x ∷ rest) (each_in_trees read at (k + 1) ts) (each P read one at (k + 1) ts) (λ xs l.
    (All-cons P x xs h l.0, omega (arith, l.1))))
