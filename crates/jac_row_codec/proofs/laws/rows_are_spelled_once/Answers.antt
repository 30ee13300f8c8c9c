use Rattle.jac_row_codec.proofs.Once.{row_once, spelling_once}
use Rattle.jac_row_codec.proofs.laws.rows_are_spelled_once.Goals as goal

pub returns-clause-row : goal.returns-clause-row
returns-clause-row c = row_once

pub returns-clause-spelling : goal.returns-clause-spelling
returns-clause-spelling c = spelling_once
