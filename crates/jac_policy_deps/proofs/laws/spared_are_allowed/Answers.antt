use Rattle.jac_policy_deps.proofs.Sparing.{spared_allowed}
use Rattle.jac_policy_deps.proofs.laws.spared_are_allowed.Goals as goal

pub returns : goal.returns
returns c = λ app s over viewer k sound apart placed spared u. spared_allowed app s over sound apart.own placed viewer k spared u
