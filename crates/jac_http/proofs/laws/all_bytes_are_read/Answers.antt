use Rattle.jac_http.proofs.ReadingLaws.{all_answered}
use Rattle.jac_http.proofs.laws.all_bytes_are_read.Goals as goal

pub returns : goal.returns
returns c = all_answered
