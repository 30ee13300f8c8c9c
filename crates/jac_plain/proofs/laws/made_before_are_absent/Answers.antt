use Rattle.jac_plain.proofs.NewLaws.{absent_before_number}
use Rattle.jac_plain.proofs.laws.made_before_are_absent.Goals as goal

pub returns : goal.returns
returns c = absent_before_number
