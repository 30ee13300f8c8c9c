use Rattle.jac_open_app_laws.proofs.Masked.{same_meaning}
use Rattle.jac_open_app_laws.proofs.laws.alike_meanings.Goals as goal

pub returns : goal.returns
returns c = same_meaning
