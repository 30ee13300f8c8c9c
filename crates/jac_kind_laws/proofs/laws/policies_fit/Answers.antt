use Rattle.jac_kind_laws.proofs.Models.{policies_fit}
use Rattle.jac_kind_laws.proofs.laws.policies_fit.Goals as goal

pub returns : goal.returns
returns c = policies_fit
