use Rattle.std.proofs.Common.{◌≡◌, ℕ, Bool, ◌++◌, [], if◌then◌else◌, All, drop}
use Rattle.jac_rows.specs.declared.row.Row.{Row}
use Rattle.jac_world.specs.World.{holds}
use Rattle.jac_write.specs.Writes.{cells_at}
use Rattle.jac_write.proofs.CellsLaws.{left_within}
use Rattle.jac_write.proofs.alternatives.within.Given as goal

abbrev pub invariant-rows : goal.invariant-rows
invariant-rows l =
    All (λ (r : Row). r.id ≡ l.id) l.out.items
    × ((w : ℕ → Bool) → cells_at w l.out.items ++ left_within w l.guard (drop l.row-index l.rows) ≡ (if holds w l.guard then cells_at w l.rows else []))
