use Rattle.jac_tree.proofs.States.{opened}
use Rattle.jac_tree.proofs.read.add_list.Goals as goal

pub returns : goal.returns
returns c = opened _ _ _ c.in_ok-push.ensures.items
