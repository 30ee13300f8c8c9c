use Rattle.std.proofs.Common.{◌≡◌, ℕ, Bool, true, List, ◌++◌, drop}
use Rattle.jac_query.specs.Sorted.{keyed_at, keyed_ids, key_leaves, keys_where}
use Rattle.jac_query.proofs.sorts.add_leaves.Given as goal

abbrev pub invariant-leaves : goal.invariant-leaves
invariant-leaves l =
    ((w : ℕ → Bool) → keyed_at w l.out.items ++ key_leaves w l.ids (drop l.leaf-index l.leaves) ≡ keyed_at w l.initial.out.items ++ key_leaves w l.ids l.leaves)
    × ((p : List ℕ → Bool) → p l.ids ≡ true → keyed_ids p l.out.items ≡ keyed_ids p l.initial.out.items)
    × (l.out.items ++ keys_where l.ids (drop l.leaf-index l.leaves) ≡ l.initial.out.items ++ keys_where l.ids l.leaves)
