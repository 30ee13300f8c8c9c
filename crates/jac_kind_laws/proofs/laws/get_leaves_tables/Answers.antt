use Rattle.jac_kind_laws.proofs.GetViews.{get_leaves}
use Rattle.jac_kind_laws.proofs.laws.get_leaves_tables.Goals as goal

pub returns : goal.returns
returns c = get_leaves
