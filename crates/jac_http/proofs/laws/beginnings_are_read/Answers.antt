use Rattle.jac_http.proofs.ReadingLaws.{beginning}
use Rattle.jac_http.proofs.laws.beginnings_are_read.Goals as goal

pub returns : goal.returns
returns c = beginning
