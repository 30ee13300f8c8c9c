use Rattle.std.proofs.Common.{◌≡◌, ◌∙◌, ◌==◌, ◌&&◌, not, ap, sym}
use Rattle.std.specs.Prelude.{Some, slice_get}
use Rattle.jac_index.specs.Triples.{has_index_pair}
use Rattle.jac_keep.proofs.Adding.{cell_pair}
use Rattle.jac_keep.proofs.by_field.remove_row.Goals as goal

pub returns-in-Some : goal.returns-in-Some
returns-in-Some c v k =
    let row = c.args.row.now in
    let cell = c.in-Some.cell.now in
    let at : slice_get row.cells c.args.field ≡ Some cell = sym c.in-Some.ensures in
    c.remove.ensures v k ∙ ap (λ b. not b && has_index_pair c.args.values.now v k) (cell_pair cell v (slice_get row.cells c.args.field) (row.id == k) at)
