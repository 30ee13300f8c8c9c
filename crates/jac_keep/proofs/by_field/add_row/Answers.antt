use Rattle.std.proofs.Common.{◌≡◌, ◌∙◌, ◌==◌, ◌||◌, ap, sym, ℕ}
use Rattle.std.specs.Prelude.{Some, None, slice_get}
use Rattle.jac_value.specs.declared.value.Value.{Value}
use Rattle.jac_index.specs.Triples.{has_index_pair, IsPairAdded}
use Rattle.jac_index.proofs.Pairs.{on_ok}
use Rattle.jac_keep.proofs.Adding.{cell_pair, no_cell}
use Rattle.jac_keep.proofs.by_field.add_row.Goals as goal

pub returns-in-Some : goal.returns-in-Some
returns-in-Some c =
    let row = c.args.row.now in
    let cell = c.in-Some.cell.now in
    let at : slice_get row.cells c.args.field ≡ Some cell = sym c.in-Some.ensures in
    on_ok c.add.result _ _
    (λ (added : IsPairAdded cell row.id c.args.values.now c.add.new.self) (v : Value) (k : ℕ).
    added v k ∙ ap (λ b. b || has_index_pair c.args.values.now v k) (cell_pair cell v (slice_get row.cells c.args.field) (row.id == k) at))
    c.add.ensures.added

pub returns-in-None : goal.returns-in-None
returns-in-None c v k =
    let row = c.args.row.now in
    let at : slice_get row.cells c.args.field ≡ None = sym c.in-None.ensures in
    no_cell v (slice_get row.cells c.args.field) (row.id == k) (has_index_pair c.args.values.now v k) at
