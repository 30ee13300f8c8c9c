use Rattle.std.proofs.Common.{◌≡◌, ◌++◌}
use Rattle.std.specs.Vec.Iter.{into_iter_items}
use Rattle.jac_facet.specs.Leaves.{leaves_seen}
use Rattle.jac_world.specs.World.{shown_by}
use Rattle.jac_stmt.proofs.page.shown_pieces.Given as goal

abbrev pub invariant-pieces : goal.invariant-pieces
invariant-pieces l =
    l.pieces.items ++ leaves_seen (shown_by l.assignment) (into_iter_items l.guard-iterator) ≡ leaves_seen (shown_by l.assignment) l.fn.out
