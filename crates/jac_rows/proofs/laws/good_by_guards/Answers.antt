use Rattle.jac_rows.proofs.Goodness.{good}
use Rattle.jac_rows.proofs.laws.good_by_guards.Goals as goal

pub returns : goal.returns
returns c kinds s g = good kinds s g
