-- What is read at the leaves of a facet, one after another.
use Rattle.std.proofs.Common.{◌≡◌, ◌≤◌, ◌∙◌, ap, sym, ℕ, Bool, true, if◌then◌else◌, List, [], ◌∷◌, length, drop}
use Rattle.std.proofs.lemmas.List.{drop_all}
use Rattle.jac_value.specs.declared.value.Value.{Value}
use Rattle.jac_world.specs.World.{holds}
use Rattle.jac_facet.specs.Leaves.{leaves_seen}
use Rattle.jac_expr.specs.Leafed.{last_by}

-- After all leaves, the result is that for the leaf with a guard that holds.
pub last_leaf : (w : ℕ → Bool) (pc : List (ℕ × Bool)) (f : Value → Value) (d x v : Value) (all leaves : List (List (ℕ × Bool) × Value)) (i : ℕ) →
    all ≡ leaves → length all ≤ i → leaves_seen w leaves ≡ (if holds w pc then v ∷ [] else []) → holds w pc ≡ true →
    last_by f x (leaves_seen w (drop i all)) ≡ last_by f d (leaves_seen w all) → x ≡ f v
last_leaf w pc f d x v all leaves i same past seen held read =
    let leaf : leaves_seen w leaves ≡ v ∷ [] = rw held at seen in
    ap (λ ps. last_by f x (leaves_seen w ps)) (sym (drop_all i all past))
    ∙ read
    ∙ ap (λ ps. last_by f d (leaves_seen w ps)) same
    ∙ ap (last_by f d) leaf
