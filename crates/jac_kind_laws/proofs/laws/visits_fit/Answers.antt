use Rattle.jac_kind_laws.proofs.Runs.{visits_fit}
use Rattle.jac_kind_laws.proofs.laws.visits_fit.Goals as goal

pub returns : goal.returns
returns c = visits_fit
