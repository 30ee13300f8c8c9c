use Rattle.jac_index_choice.proofs.Finding.{found_at}
use Rattle.jac_index_choice.proofs.laws.found_at.Goals as goal

pub returns : goal.returns
returns c = found_at
