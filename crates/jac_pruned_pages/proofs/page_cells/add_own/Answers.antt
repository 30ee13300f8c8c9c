use Rattle.std.proofs.Common.{◌∙◌, ap}
use Rattle.jac_value.specs.Ids.{model_of_id}
use Rattle.jac_keep.specs.WorkState.{state_of}
use Rattle.jac_plain.specs.Pieces.{piece_of}
use Rattle.jac_plain.specs.World.{cell_of}
use Rattle.jac_pruned_pages.specs.Buffers.{buffer_of, buffer_with}
use Rattle.jac_shown_rows.specs.Columns.{absent_in}
use Rattle.jac_shown_rows.proofs.Rows.{record_of_alternatives}
use Rattle.jac_shown_rows.proofs.Lent.{lent_before}
use Rattle.jac_pruned_pages.proofs.page_cells.add_own.Goals as goal

pub returns-in-Some-looked-clause-piece : goal.returns-in-Some-looked-clause-piece
returns-in-Some-looked-clause-piece g c told w agree =
    let id = c.args.id in
    let seen = g.K.Keeper.seen in
    let absent = absent_in c.args.column.now in
    c.in_ok-add_cell.ensures
    ∙ ap (λ v. buffer_with (piece_of c.args.form v) (buffer_of c.args.page.now))
    (c.in_ok-cell.ensures.value w agree absent
    ∙ ap (λ o. cell_of o c.args.column.now.field absent)
    (record_of_alternatives w id (model_of_id id) (state_of seen c.args.work.now).tables c.in-Some-looked.rows.now
    (lent_before seen c.args.work.now _ id c.in-Some-looked.rows.now c.in_ok-near.ensures.reads.same told (c.in-Some-looked.ensures told))))

pub returns-clause-piece : goal.returns-clause-piece
returns-clause-piece g c told w agree =
    let id = c.args.id in
    let seen = g.K.Keeper.seen in
    let reads = c.in_ok-rows.ensures.reads in
    let absent = absent_in c.args.column.now in
    c.in_ok-add_cell-2.ensures
    ∙ ap (λ v. buffer_with (piece_of c.args.form v) (buffer_of c.args.page.now))
    (c.in_ok-cell-2.ensures.value w agree absent
    ∙ ap (λ o. cell_of o c.args.column.now.field absent)
    (record_of_alternatives w id (model_of_id id) (state_of seen c.args.work.now).tables c.as_slice.result.now
    (c.as_slice.ensures ∙ lent_before seen c.args.work.now _ id c.in_ok-rows.rows c.in_ok-near.ensures.reads.same (reads.same.told told) (c.in_ok-rows.ensures.exact told))))
