use Rattle.jac_open_app_laws.proofs.Settling.{even_allowed}
use Rattle.jac_open_app_laws.proofs.laws.even_policies.Goals as goal

pub returns : goal.returns
returns c = even_allowed
