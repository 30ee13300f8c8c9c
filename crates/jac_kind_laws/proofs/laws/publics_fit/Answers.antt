use Rattle.jac_kind_laws.proofs.Models.{publics_fit}
use Rattle.jac_kind_laws.proofs.laws.publics_fit.Goals as goal

pub returns : goal.returns
returns c = publics_fit
