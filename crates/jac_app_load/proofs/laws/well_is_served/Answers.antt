use Rattle.jac_app_load.proofs.WellServed.{well_served}
use Rattle.jac_app_load.proofs.laws.well_is_served.Goals as goal

pub returns : goal.returns
returns c = well_served
