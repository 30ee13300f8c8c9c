use Rattle.std.proofs.Common.{◌∙◌, ap}
use Rattle.jac_rows.specs.Project.{rows_at}
use Rattle.jac_plain.specs.World.{cell_of, record_with}
use Rattle.jac_shown_rows.specs.Own.{are_own_rows, is_own_row}
use Rattle.jac_shown_rows.proofs.OwnRows.{all_alternatives, if_ok}
use Rattle.jac_shown_rows.proofs.Rows.{record-is}
use Rattle.jac_shown_rows.proofs.lent_table.cell_among.Goals as goal

pub returns-clause-value : goal.returns-clause-value
returns-clause-value c =
    let id = c.args.id in
    if_ok c.shown_cell.result _ _
    (λ o is w agree absent.
    is w agree absent
    ∙ ap (λ r. cell_of r c.args.field absent)
    (ap (λ rs. record_with id (rows_at w rs)) c.rows_behind-own.ensures ∙ record-is w id c.args.rows.now))
    c.shown_cell.ensures.value

pub returns-clause-own : goal.returns-clause-own
returns-clause-own c this own before =
    let id = c.args.id in
    c.shown_cell.ensures.own this
    (ap (are_own_rows this id) c.rows_behind-own.ensures ∙ all_alternatives (is_own_row this id) id c.args.rows.now own) before
