use Rattle.jac_route.proofs.TableLaws.{found_view}
use Rattle.jac_route.proofs.laws.found_views_fit.Goals as goal

pub returns : goal.returns
returns c = found_view
