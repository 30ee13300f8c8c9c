use Rattle.std.proofs.Common.{◌≡◌, ℕ, Bool, ◌++◌, All, drop, map}
use Rattle.jac_facet.specs.Shape.{at}
use Rattle.jac_rows.specs.declared.row.Row.{Row}
use Rattle.jac_write.specs.Drafts.{with_cell}
use Rattle.jac_write.specs.Writes.{cells_at}
use Rattle.jac_write.proofs.DraftLaws.{each_row}
use Rattle.jac_write.proofs.cells.with_facet.Given as goal

abbrev pub invariant-rows : goal.invariant-rows
invariant-rows l =
    All (λ (r : Row). r.id ≡ l.id) l.out.items
    × ((w : ℕ → Bool) → cells_at w l.out.items ++ each_row w (with_cell l.spot (at w l.facet)) (drop l.row-index l.rows) ≡ map (with_cell l.spot (at w l.facet)) (cells_at w l.rows))
