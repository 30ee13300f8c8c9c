use Rattle.std.proofs.Common.{rules}
use Rattle.jac_row_codec.proofs.Cells.{last_out}
use Rattle.jac_row_codec.proofs.cell.last_byte.Goals as goal

pub returns-in-Some-2-clause-stops : goal.returns-in-Some-2-clause-stops
returns-in-Some-2-clause-stops c = last_out c.args.model c.in-Some.byte.now c.args.bytes.now c.in-Some.rest.now (search rules) c.in-Some.ensures.cases.0 c.if-byte-model.false
