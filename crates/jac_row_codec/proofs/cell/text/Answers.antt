use Rattle.std.proofs.Common.{rules}
use Rattle.jac_row_codec.proofs.Cells.{text_stops}
use Rattle.jac_row_codec.proofs.cell.text.Goals as goal

pub returns-in_err-text-clause-stops : goal.returns-in_err-text-clause-stops
returns-in_err-text-clause-stops c =
    let step = text_stops c.in_ok-long.long c.args.bytes.now c.in_ok-long.rest.now c.in_ok-long.ensures.number in
    search (rules, step)
