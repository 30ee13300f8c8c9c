use Rattle.jac_resolve.proofs.Greedy.{passed_settled}
use Rattle.jac_lazy.proofs.laws.passed_is_settled.Goals as goal

pub returns : goal.returns
returns c = passed_settled
