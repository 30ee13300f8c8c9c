use Rattle.jac_kind_laws.proofs.Requests.{parameters_fit}
use Rattle.jac_kind_laws.proofs.laws.parameters_fit.Goals as goal

pub returns : goal.returns
returns c = parameters_fit
