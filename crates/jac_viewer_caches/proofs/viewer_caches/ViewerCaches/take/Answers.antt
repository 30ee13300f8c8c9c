use Rattle.jac_viewer_caches.proofs.viewer_caches.ViewerCaches.take.Goals as goal

pub returns-clause-left : goal.returns-clause-left
returns-clause-left c = rw (← c.self.view_is) c.take_from.ensures.left
