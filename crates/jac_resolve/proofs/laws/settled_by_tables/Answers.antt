use Rattle.jac_resolve.proofs.Alike.{settled_alike}
use Rattle.jac_resolve.proofs.laws.settled_by_tables.Goals as goal

pub returns : goal.returns
returns c = settled_alike
