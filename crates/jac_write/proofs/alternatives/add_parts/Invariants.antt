use Rattle.std.proofs.Common.{◌≡◌, ℕ, Bool, ◌++◌, All}
use Rattle.std.specs.Vec.Iter.{into_iter_items}
use Rattle.jac_rows.specs.declared.row.Row.{Row}
use Rattle.jac_write.specs.Writes.{cells_at, each_holding}
use Rattle.jac_write.proofs.alternatives.add_parts.Given as goal

abbrev pub invariant-guards : goal.invariant-guards
invariant-guards l =
    All (λ (r : Row). r.id ≡ l.id) l.out.items
    × ((w : ℕ → Bool) → cells_at w l.out.items ++ each_holding w (into_iter_items l.guard-iterator) l.cells ≡ cells_at w l.fn.out.items ++ each_holding w l.fn.guards.items l.cells)
