use Rattle.std.proofs.Common.{length}
use Rattle.jac_viewer_caches.specs.CacheEntries.{IsOneOf}
use Rattle.jac_viewer_caches.specs.declared.viewer_caches.ViewerEntry.{ViewerEntry}
use Rattle.jac_viewer_caches.proofs.viewer_caches.make_room.Given as goal

abbrev pub invariant-room : goal.invariant-room
invariant-room l = (s : ViewerEntry) → IsOneOf s l.viewer_caches.items → IsOneOf s l.fn.viewer_caches.items

abbrev pub decreases-room : goal.decreases-room
decreases-room l = length l.viewer_caches.items
