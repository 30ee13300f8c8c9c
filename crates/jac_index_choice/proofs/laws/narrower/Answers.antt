use Rattle.jac_index_choice.proofs.Narrowing.{narrower}
use Rattle.jac_index_choice.proofs.laws.narrower.Goals as goal

pub returns : goal.returns
returns c = narrower
