use Rattle.std.proofs.Common.{◌≡◌, ℕ, Bool, ◌++◌, map}
use Rattle.std.specs.Vec.Iter.{into_iter_items}
use Rattle.jac_facet.specs.Leaves.{leaves_seen}
use Rattle.jac_plain.specs.Pieces.{piece_of}
use Rattle.jac_stmt.proofs.pieces.add_leaves.Given as goal

abbrev pub invariant-leaves : goal.invariant-leaves
invariant-leaves l =
    (w : ℕ → Bool) → leaves_seen w l.out ++ map (piece_of l.form) (leaves_seen w (into_iter_items l.guard-iterator)) ≡ leaves_seen w l.fn.out ++ map (piece_of l.form) (leaves_seen w l.fn.leaves.items)
