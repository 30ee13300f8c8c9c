use Rattle.jac_world.proofs.Alike.{same_pairs}
use Rattle.jac_world.proofs.laws.same_where_alike.Goals as goal

pub returns : goal.returns
returns c g h r s alike = same_pairs g h r s alike
