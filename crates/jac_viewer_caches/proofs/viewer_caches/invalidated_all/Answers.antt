use Rattle.jac_viewer_caches.proofs.KeptLaws.{one_invalidated}
use Rattle.jac_viewer_caches.proofs.viewer_caches.invalidated_all.Goals as goal

pub viewer_caches-preserved : goal.viewer_caches-preserved
viewer_caches-preserved c =
    one_invalidated c.args.invalidation.now c.args.viewer_caches.items c.viewer_caches.left.items c.pop.new.self.items c.viewer_caches.invalidated.items c.keep.new.kept.items
    c.in-Some.viewer_entry c.in_ok-viewer_entry.viewer_entry c.viewer_caches.invariant c.in-Some.ensures.items c.in_ok-viewer_entry.ensures.viewer
    c.in_ok-viewer_entry.ensures.cache c.in_ok-keep.ensures
