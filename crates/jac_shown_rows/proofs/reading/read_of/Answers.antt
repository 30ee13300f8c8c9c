use Rattle.std.proofs.Common.{◌∙◌, ap, sym}
use Rattle.jac_keep.specs.WorkState.{state_of}
use Rattle.jac_rows.specs.Project.{project_at}
use Rattle.jac_rows.specs.Tables.{rows_of}
use Rattle.jac_plain.specs.World.{cell_of, record_with}
use Rattle.jac_shown_rows.proofs.Rows.{record_of_table}
use Rattle.jac_shown_rows.specs.Own.{are_own_rows}
use Rattle.jac_shown_rows.specs.Columns.{absent_in}
use Rattle.jac_shown_rows.proofs.reading.read_of.Goals as goal

pub returns-then-id_model-column-clause-value : goal.returns-then-id_model-column-clause-value
returns-then-id_model-column-clause-value g c told w agree =
    c.in_ok-cell.ensures.value told w agree
    ∙ ap (λ m. cell_of (record_with c.args.id (rows_of (project_at w (state_of g.K.Keeper.seen c.args.work.now)).tables m)) c.args.column.now.field (absent_in c.args.column.now))
    (sym c.id_model.ensures ∙ c.if-id_model-column.true)

pub returns-then-id_model-column-clause-own : goal.returns-then-id_model-column-clause-own
returns-then-id_model-column-clause-own g c told this own before =
    c.in_ok-cell.ensures.own told this
    (ap (λ m. are_own_rows this c.args.id (rows_of (state_of g.K.Keeper.seen c.args.work.now).tables m)) (sym c.id_model.ensures ∙ c.if-id_model-column.true) ∙ own) before

pub returns-clause-value : goal.returns-clause-value
returns-clause-value g c told w agree =
    c.in_ok-cell-2.ensures.value w agree
    ∙ ap (λ o. cell_of o c.args.column.now.field (absent_in c.args.column.now))
    (record_of_table w c.args.id c.args.column.now.model (state_of g.K.Keeper.seen c.args.work.now).tables c.as_slice.result.now (c.as_slice.ensures ∙ c.in_ok-rows.ensures.exact told))

pub returns-clause-own : goal.returns-clause-own
returns-clause-own g c told this own before =
    c.in_ok-cell-2.ensures.own this (ap (are_own_rows this c.args.id) (c.as_slice.ensures ∙ c.in_ok-rows.ensures.exact told) ∙ own) before
