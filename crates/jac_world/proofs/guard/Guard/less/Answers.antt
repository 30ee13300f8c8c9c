use Rattle.jac_world.proofs.Contradict.{pairwise, one_at_most}
use Rattle.jac_world.proofs.guard.Guard.less.Goals as goal

pub returns-clause-apart : goal.returns-clause-apart
returns-clause-apart c = pairwise _ (λ w. one_at_most _ _ (c.in_ok-guards.ensures.exact w))
