use Rattle.std.proofs.Common.{length}
use Rattle.jac_viewer_caches.proofs.KeptLaws.{AreHalfway}
use Rattle.jac_viewer_caches.proofs.viewer_caches.invalidated_all.Given as goal

abbrev pub invariant-viewer_caches : goal.invariant-viewer_caches
invariant-viewer_caches l = AreHalfway l.invalidation l.fn.viewer_caches.items l.left.items l.invalidated.items

abbrev pub decreases-viewer_caches : goal.decreases-viewer_caches
decreases-viewer_caches l = length l.left.items
