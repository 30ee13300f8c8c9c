use Rattle.std.proofs.Common.{◌≡◌, ℕ, Bool, ◌++◌, All}
use Rattle.std.specs.Vec.Iter.{into_iter_items}
use Rattle.jac_rows.specs.declared.row.Row.{Row}
use Rattle.jac_write.specs.Writes.{cells_at}
use Rattle.jac_write.proofs.CellsLaws.{one_by_one}
use Rattle.jac_write.proofs.alternatives.put_rows.Given as goal

abbrev pub invariant-rows : goal.invariant-rows
invariant-rows l =
    All (λ (r : Row). r.id ≡ l.id) l.out.items
    × ((w : ℕ → Bool) → cells_at w l.out.items ++ one_by_one w (into_iter_items l.row-iterator) ≡ cells_at w l.fn.out.items ++ cells_at w l.fn.rows.items)
