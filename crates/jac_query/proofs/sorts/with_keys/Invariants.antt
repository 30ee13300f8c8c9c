use Rattle.std.proofs.Common.{◌≡◌, ℕ, Bool, true, List, ◌&&◌, ◌++◌, length}
use Rattle.jac_query.specs.Live.{all_ids}
use Rattle.jac_query.specs.Marked.{marked_tuples}
use Rattle.jac_query.specs.Sorted.{keyed_at, keyed_ids, keyed_tuples}
use Rattle.jac_query.proofs.sorts.with_keys.Given as goal

abbrev pub invariant-keys : goal.invariant-keys
invariant-keys l =
    ((w : ℕ → Bool) → keyed_at w l.out.items ++ marked_tuples w l.rest l.left ≡ marked_tuples w l.tuples l.keys)
    × ((p : List ℕ → Bool) → all_ids p l.tuples ≡ true → (keyed_ids p l.out.items && all_ids p l.rest) ≡ true)
    × (l.out.items ++ keyed_tuples l.rest l.left ≡ keyed_tuples l.tuples l.keys)
    × (length l.rest ≡ length l.left)

abbrev pub decreases-keys : goal.decreases-keys
decreases-keys l = length l.rest
