use Rattle.jac_resolve.proofs.Moving.{valid_alike}
use Rattle.jac_resolve.proofs.laws.valid_by_tables.Goals as goal

pub returns : goal.returns
returns c app s t viewer cache same is = valid_alike app s t viewer cache same is
