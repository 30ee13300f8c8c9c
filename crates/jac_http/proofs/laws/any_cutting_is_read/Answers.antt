use Rattle.jac_http.proofs.ReadingLaws.{cutting}
use Rattle.jac_http.proofs.laws.any_cutting_is_read.Goals as goal

pub returns : goal.returns
returns c = cutting
