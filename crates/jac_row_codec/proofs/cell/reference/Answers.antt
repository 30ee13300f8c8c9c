use Rattle.std.proofs.Common.{rules}
use Rattle.jac_row_codec.proofs.Cells.{ids_stop}
use Rattle.jac_row_codec.proofs.cell.reference.Goals as goal

pub returns-in_err-id-clause-stops : goal.returns-in_err-id-clause-stops
returns-in_err-id-clause-stops c =
    let step = ids_stop c.args.model c.in_ok-some.some c.args.bytes.now c.in_ok-some.rest.now (search rules) (search rules) in
    search (rules, step)
