-- One step of a loop that reads the trees of a list.
use Rattle.std.proofs.Common.{◌≡◌, ℕ, ◌+◌, refl, sym, ◌∙◌, ap, List, [], ◌∷◌, ◌++◌, append_assoc}
use Rattle.jac_tree.specs.Plain.{PlainTree, PlainTrees}
use Rattle.jac_forms.specs.Names.{each_in_trees}
use Rattle.jac_forms.specs.Places.{child}
use Rattle.jac_forms.specs.Reads.{Read, got, refused, read_map, read_and_then}

-- The items so far, and then those that are still to be read.
abbrev pub made_before : {A : Type 0} → List A → Read (List A) → Read (List A)
made_before made rest = read_map (λ more. made ++ more) rest

-- `f` maps a list of the code's items to plain data, one by one.
module _ {A B : Type 0} (g : A → B) (f : List A → List B) (none : f [] ≡ []) (more : (x : A) (xs : List A) → f (x ∷ xs) ≡ g x ∷ f xs) where
  seen-append : (xs ys : List A) → f (xs ++ ys) ≡ f xs ++ f ys
  seen-append [] ys = ap (λ (s : List B). s ++ f ys) (sym none)
  seen-append (x ∷ xs) ys = more x (xs ++ ys) ∙ ap (λ (s : List B). g x ∷ s) (seen-append xs ys) ∙ ap (λ (s : List B). s ++ f ys) (sym (more x xs))

  -- The item `y` is appended.
  pub seen-pushed : (done new : List A) (y : A) → new ≡ done ++ y ∷ [] → f new ≡ f done ++ g y ∷ []
  seen-pushed done new y pushed = ap f pushed ∙ seen-append done (y ∷ []) ∙ ap (λ (s : List B). f done ++ s) (more y [] ∙ ap (λ (s : List B). g y ∷ s) none)

module _ {B : Type 0} (read : List ℕ → PlainTree → Read B) (at : List ℕ) where
  -- The item that the tree `t`, which is child `k`, represents is appended.
  pub made-more : (done new : List B) (b : B) (k next : ℕ) (path : List ℕ) (t : PlainTree) (ts : PlainTrees) (all : Read (List B)) → new ≡ done ++ b ∷ []
      → next ≡ k + 1 → path ≡ child at k → read path t ≡ got b
      → made_before done (each_in_trees read at k (PlainTrees.more t ts)) ≡ all → made_before new (each_in_trees read at next ts) ≡ all
  made-more done new b k next path t ts all pushed counted here item before =
      ap (λ (s : List B). made_before s (each_in_trees read at next ts)) pushed
      ∙ ap (λ (n : ℕ). made_before (done ++ b ∷ []) (each_in_trees read at n ts)) counted
      ∙ step (each_in_trees read at (k + 1) ts)
      ∙ ap (λ (o : Read B). made_before done (read_and_then (λ first. read_map (λ rest. first ∷ rest) (each_in_trees read at (k + 1) ts)) o))
      (sym item ∙ ap (λ (p : List ℕ). read p t) here)
      ∙ before
    where
      step : (rest : Read (List B)) → made_before (done ++ b ∷ []) rest ≡ made_before done (read_map (λ more. b ∷ more) rest)
      step (refused fault) = refl
      step (got bs) = ap (λ (s : List B). got s) (append_assoc done (b ∷ []) bs)
