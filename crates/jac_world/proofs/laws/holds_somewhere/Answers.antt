use Rattle.jac_world.proofs.Contradict.{can_hold}
use Rattle.jac_world.proofs.laws.holds_somewhere.Goals as goal

pub returns : goal.returns
returns c g r = can_hold g r
