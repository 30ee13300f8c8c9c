use Rattle.jac_http.proofs.ReadingLaws.{reading}
use Rattle.jac_http.proofs.laws.requests_are_read.Goals as goal

pub returns : goal.returns
returns c = reading
