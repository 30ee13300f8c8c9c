use Rattle.jac_kind_laws.proofs.Means.{kinds_hold}
use Rattle.jac_kind_laws.proofs.laws.kinds_hold.Goals as goal

pub returns : goal.returns
returns c = kinds_hold
