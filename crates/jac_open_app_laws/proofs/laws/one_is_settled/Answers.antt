use Rattle.jac_open_app_laws.proofs.Settling.{law_one}
use Rattle.jac_open_app_laws.proofs.laws.one_is_settled.Goals as goal

pub returns : goal.returns
returns c = law_one
