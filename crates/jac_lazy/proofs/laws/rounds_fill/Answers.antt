use Rattle.jac_lazy.proofs.Trying.{law_rounds}
use Rattle.jac_lazy.proofs.laws.rounds_fill.Goals as goal

pub returns : goal.returns
returns c = law_rounds
