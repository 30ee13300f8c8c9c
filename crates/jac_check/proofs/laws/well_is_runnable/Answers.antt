use Rattle.jac_check.proofs.WellRuns.{well-runs}
use Rattle.jac_check.proofs.laws.well_is_runnable.Goals as goal

pub returns : goal.returns
returns c = well-runs
