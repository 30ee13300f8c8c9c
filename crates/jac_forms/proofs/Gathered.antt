-- The items of an application, as a loop gathers them.
use Rattle.std.proofs.Common.{◌≡◌, ℕ, ◌+◌, true, refl, sym, ◌∙◌, ap, List, [], ◌∷◌, ◌++◌, append_assoc}
use Rattle.std.specs.Prelude.{codes}
use Rattle.jac_lang.specs.Syntax.{Entity}
use Rattle.jac_tree.specs.Plain.{PlainTree, PlainTrees}
use Rattle.jac_forms.specs.Places.{child}
use Rattle.jac_forms.specs.Reads.{Read, got, refused, read_map}
use Rattle.jac_forms.specs.Applications.{Items, items, after_model, is_headed, headed_count, items_in_trees, entity_in_tree}

-- The models, and then those of the items.
abbrev pub models_before : List Entity → Items → Items
models_before ms is = items (ms ++ is.models) is.views

-- The models so far, and then the items of these trees.
abbrev pub gathered : List Entity → List ℕ → ℕ → PlainTrees → Read Items
gathered done at k ts = read_map (models_before done) (items_in_trees at k ts)

pub headed-more : (word : List ℕ) (t : PlainTree) (ts : PlainTrees) → is_headed word t ≡ true → headed_count word (PlainTrees.more t ts) ≡ headed_count word ts + 1
headed-more word t ts head = rw head refl

-- The tree `t`, which is child `k`, represents the model `m`.
pub gathered-more : (done new : List Entity) (m : Entity) (at : List ℕ) (k next : ℕ) (path : List ℕ) (t : PlainTree) (ts : PlainTrees) (all : Read Items) → new ≡ done ++ m ∷ []
    → next ≡ k + 1 → path ≡ child at k → is_headed (codes "model") t ≡ true → entity_in_tree path t ≡ got m
    → gathered done at k (PlainTrees.more t ts) ≡ all → gathered new at next ts ≡ all
gathered-more done new m at k next path t ts all pushed counted here head item before =
    let shape : items_in_trees at k (PlainTrees.more t ts) ≡ read_map (after_model m) (items_in_trees at (k + 1) ts) = rw (head, ← here, item) refl in
    ap (λ (s : List Entity). gathered s at next ts) pushed ∙ ap (λ (n : ℕ). gathered (done ++ m ∷ []) at n ts) counted
    ∙ step (items_in_trees at (k + 1) ts) ∙ ap (λ (o : Read Items). read_map (models_before done) o) (sym shape) ∙ before
  where
    step : (rest : Read Items) → read_map (models_before (done ++ m ∷ [])) rest ≡ read_map (models_before done) (read_map (after_model m) rest)
    step (refused fault) = refl
    step (got is) = ap (λ (s : List Entity). got (items s is.views)) (append_assoc done (m ∷ []) is.models)
