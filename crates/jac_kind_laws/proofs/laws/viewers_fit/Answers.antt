use Rattle.jac_kind_laws.proofs.Requests.{viewers_fit}
use Rattle.jac_kind_laws.proofs.laws.viewers_fit.Goals as goal

pub returns : goal.returns
returns c = viewers_fit
