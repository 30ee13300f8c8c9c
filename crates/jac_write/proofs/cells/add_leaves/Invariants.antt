use Rattle.std.proofs.Common.{◌≡◌, ℕ, Bool, ◌++◌, All}
use Rattle.std.specs.Vec.Iter.{into_iter_items}
use Rattle.jac_rows.specs.declared.row.Row.{Row}
use Rattle.jac_write.specs.Drafts.{with_each}
use Rattle.jac_write.specs.Writes.{cells_at}
use Rattle.jac_write.proofs.cells.add_leaves.Given as goal

abbrev pub invariant-leaves : goal.invariant-leaves
invariant-leaves l =
    All (λ (r : Row). r.id ≡ l.id) l.out.items
    × ((w : ℕ → Bool) → cells_at w l.out.items ++ with_each w l.spot l.cells (into_iter_items l.leaf-iterator) ≡ cells_at w l.fn.out.items ++ with_each w l.spot l.cells l.fn.leaves.items)
