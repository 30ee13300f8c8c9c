use Rattle.jac_row_codec.proofs.Rows.{cells_once}
use Rattle.jac_row_codec.proofs.laws.cells_are_spelled_once.Goals as goal

pub returns : goal.returns
returns c = cells_once
