use Rattle.jac_check.proofs.Well.{well-law}
use Rattle.jac_check.proofs.laws.well_without_fault.Goals as goal

pub returns : goal.returns
returns c = well-law
