use Rattle.jac_facet.proofs.Alike.{same_shapes}
use Rattle.jac_facet.proofs.laws.same_where_alike.Goals as goal

pub returns : goal.returns
returns g c f h r s alike = same_shapes f h r s alike
