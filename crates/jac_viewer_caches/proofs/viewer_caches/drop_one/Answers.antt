use Rattle.jac_viewer_caches.proofs.KeptLaws.{in_removed}
use Rattle.jac_viewer_caches.proofs.viewer_caches.drop_one.Goals as goal

pub returns-clause-left : goal.returns-clause-left
returns-clause-left c = λ s is. in_removed s _ c.args.viewer_caches.now.items (rw c.remove.ensures.items at is)
