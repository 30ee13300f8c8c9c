use Rattle.jac_world.proofs.Contradict.{contradict_apart, apart_contradict}
use Rattle.jac_world.proofs.laws.contradict_where_apart.Goals as goal

pub returns : goal.returns
returns c g h r s = (contradict_apart g h, apart_contradict g h r s)
