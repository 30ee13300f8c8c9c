use Rattle.jac_world.proofs.Contradict.{by_names}
use Rattle.jac_world.proofs.laws.holds_by_names.Goals as goal

pub returns : goal.returns
returns c g v w h = by_names g v w h
