use Rattle.jac_lazy.proofs.Filling.{law_filled}
use Rattle.jac_lazy.proofs.laws.filled_is_settled.Goals as goal

pub returns : goal.returns
returns c = law_filled
