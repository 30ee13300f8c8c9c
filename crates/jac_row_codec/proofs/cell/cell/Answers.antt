use Rattle.std.proofs.Common.{rules}
use Rattle.jac_row_codec.proofs.Cells.{body_stops}
use Rattle.jac_row_codec.proofs.cell.cell.Goals as goal

pub returns-in_err-value-clause-stops : goal.returns-in_err-value-clause-stops
returns-in_err-value-clause-stops c =
    let step = body_stops c.args.kind c.args.bytes.now c.in_ok-rest.rest.now c.in_ok-rest.field-0-0 (search rules) in
    search (rules, step)
