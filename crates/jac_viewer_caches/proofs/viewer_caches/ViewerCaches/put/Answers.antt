use Rattle.jac_viewer_caches.proofs.viewer_caches.ViewerCaches.put.Goals as goal

pub returns : goal.returns
returns c = rw (← c.self.view_is) c.put_in.ensures
