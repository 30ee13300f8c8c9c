use Rattle.jac_policy_deps.proofs.Sparing.{spared_live}
use Rattle.jac_policy_deps.proofs.laws.others_are_live.Goals as goal

pub returns : goal.returns
returns c = λ app s over k sound apart placed stay. spared_live app s over sound apart.own placed k stay
