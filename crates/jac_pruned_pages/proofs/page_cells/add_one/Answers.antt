use Rattle.std.proofs.Common.{◌∙◌, ap, sym, Option}
use Rattle.jac_rows.specs.declared.plain.PlainRow.{PlainRow}
use Rattle.jac_rows.specs.Project.{project_at}
use Rattle.jac_rows.specs.Tables.{rows_of}
use Rattle.jac_keep.specs.WorkState.{state_of}
use Rattle.jac_plain.specs.Pieces.{piece_of}
use Rattle.jac_plain.specs.World.{cell_of, record_with, referred_record}
use Rattle.jac_pruned_pages.specs.Buffers.{BufferSeen, buffer_of, buffer_with}
use Rattle.jac_shown_rows.specs.Columns.{absent_in}
use Rattle.jac_pruned_pages.proofs.page_cells.add_one.Goals as goal

pub returns-in_ok-add_own-in-Some-clause-piece : goal.returns-in_ok-add_own-in-Some-clause-piece
returns-in_ok-add_own-in-Some-clause-piece g c told w agree =
    let column = c.args.column.now in
    let tables = (project_at w (state_of g.K.Keeper.seen c.args.work.now)).tables in
    let shown : Option PlainRow → BufferSeen = λ o. buffer_with (piece_of c.args.form (cell_of o column.field (absent_in column))) (buffer_of c.args.page.now) in
    c.in_ok-add_own-in-Some.ensures.piece told w agree
    ∙ ap (λ m. shown (record_with c.in-Some.id (rows_of tables m))) c.in-Some.ensures.1
    ∙ ap (λ v. shown (referred_record v (rows_of tables column.model))) (sym c.in-Some.ensures.0)
