use Rattle.jac_policy_cache.specs.Memo.{given_of}
use Rattle.jac_policy_cache.proofs.Recalling.{recall_by}
use Rattle.jac_policy_cache.proofs.laws.recall_by_dependencies.Goals as goal

pub returns : goal.returns
returns c answers j v w alike = recall_by (given_of answers.given j) v w alike
