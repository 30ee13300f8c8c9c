use Rattle.jac_open_app_laws.proofs.Settling.{law_settled}
use Rattle.jac_open_app_laws.proofs.laws.open_settled.Goals as goal

pub returns : goal.returns
returns c = law_settled
