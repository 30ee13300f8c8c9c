use Rattle.jac_viewer_caches.proofs.KeptLaws.{kept_more}
use Rattle.jac_viewer_caches.proofs.viewer_caches.put_in.Goals as goal

pub returns : goal.returns
returns c = kept_more c.args.viewer_entry c.args.viewer_caches.now.items c.make_room.new.viewer_caches.items c.push.new.viewer_caches.items c.make_room.ensures c.push.ensures
