use Rattle.jac_plain.proofs.NewLaws.{creates_new}
use Rattle.jac_plain.proofs.laws.creates_are_new.Goals as goal

pub returns : goal.returns
returns c = creates_new
