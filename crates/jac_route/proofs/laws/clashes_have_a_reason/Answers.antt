use Rattle.jac_route.proofs.TableLaws.{refused_view}
use Rattle.jac_route.proofs.laws.clashes_have_a_reason.Goals as goal

pub returns : goal.returns
returns c = refused_view
