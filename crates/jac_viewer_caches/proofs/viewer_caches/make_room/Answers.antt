use Rattle.jac_viewer_caches.proofs.viewer_caches.make_room.Goals as goal

pub room-preserved : goal.room-preserved
room-preserved c = λ s is. c.room.invariant s (c.drop_one.ensures.left s is)
