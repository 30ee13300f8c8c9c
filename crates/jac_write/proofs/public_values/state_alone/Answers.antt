use Rattle.std.proofs.Common.{◌∙◌, ap, refl, map}
use Rattle.jac_rows.specs.Project.{rows_at}
use Rattle.jac_rows.specs.declared.row.Row.{Row}
use Rattle.jac_plain.specs.Records.{alone, plain_row}
use Rattle.jac_write.proofs.AloneLaws.{sound_alone, shown_alone}
use Rattle.jac_write.proofs.public_values.state_alone.Goals as goal

pub returns-clause-sound : goal.returns-clause-sound
returns-clause-sound c =
    let row : Row = record { id = c.args.id; guard = c.empty.result; cells = c.in_ok-cells.cells } in
    rw c.in_ok-tables.ensures (sound_alone c.args.model c.args.id c.next_number.result row refl c.requires c.next_number.ensures)

pub returns-clause-shown : goal.returns-clause-shown
returns-clause-shown c w =
    let row : Row = record { id = c.args.id; guard = c.empty.result; cells = c.in_ok-cells.cells } in
    ap (map (rows_at w)) c.in_ok-tables.ensures
    ∙ shown_alone w c.args.model row c.empty.ensures
    ∙ ap (λ cells. alone c.args.model (plain_row c.args.id cells)) c.in_ok-cells.ensures
