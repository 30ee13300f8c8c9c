use Rattle.jac_open_app_laws.proofs.Masked.{same_allowed}
use Rattle.jac_open_app_laws.proofs.laws.alike_policies.Goals as goal

pub returns : goal.returns
returns c = same_allowed
