use Rattle.jac_policy_deps.proofs.Clearing.{same_answers}
use Rattle.jac_policy_deps.proofs.laws.same_answers.Goals as goal

pub returns : goal.returns
returns c = same_answers
