use Rattle.std.proofs.Common.{◌≡◌, drop, ◌++◌}
use Rattle.jac_world.specs.World.{shown_by}
use Rattle.jac_policy_cache.specs.Memo.{signed_labels}
use Rattle.jac_policy_cache.proofs.policy_memo.signed_pairs.Given as goal

abbrev pub invariant-labels : goal.invariant-labels
invariant-labels l = l.pairs.items ++ signed_labels (shown_by l.a) (drop l.label-index l.labels) ≡ signed_labels (shown_by l.a) l.labels
