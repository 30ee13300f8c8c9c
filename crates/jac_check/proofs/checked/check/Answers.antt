use Rattle.std.proofs.Common.{refl}
use Rattle.jac_lang.specs.Mirror.{application_of}
use Rattle.jac_check.proofs.Well.{well_where_none}
use Rattle.jac_check.proofs.checked.check.Goals as goal

pub invariant_of-result : goal.invariant_of-result
invariant_of-result c = well_where_none (application_of c.args.app) (c.in-None.ensures.none refl)

pub returns-in-None-clause-well : goal.returns-in-None-clause-well
returns-in-None-clause-well c = (refl, well_where_none (application_of c.args.app) (c.in-None.ensures.none refl))
