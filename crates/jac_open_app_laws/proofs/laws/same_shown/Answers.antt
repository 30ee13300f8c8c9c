use Rattle.jac_open_app_laws.proofs.Settling.{law_shown}
use Rattle.jac_open_app_laws.proofs.laws.same_shown.Goals as goal

pub returns : goal.returns
returns c = law_shown
