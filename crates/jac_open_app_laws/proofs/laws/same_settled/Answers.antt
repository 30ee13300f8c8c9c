use Rattle.jac_open_app_laws.proofs.Settling.{law_same}
use Rattle.jac_open_app_laws.proofs.laws.same_settled.Goals as goal

pub returns : goal.returns
returns c = law_same
