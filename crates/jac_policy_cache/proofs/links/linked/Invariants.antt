use Rattle.jac_policy_cache.proofs.Linking.{Linking}
use Rattle.jac_policy_cache.proofs.links.linked.Given as goal

abbrev pub invariant-labels : goal.invariant-labels
invariant-labels l = Linking l.answers l.labels l.all l.left.items
