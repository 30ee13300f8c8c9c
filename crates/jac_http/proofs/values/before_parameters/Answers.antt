use Rattle.jac_http.proofs.Places.{before_found, before_missing}
use Rattle.jac_http.proofs.values.before_parameters.Goals as goal

pub returns-in-Some : goal.returns-in-Some
returns-in-Some c = before_found _ c.args.value.now c.in-Some.at c.in-Some.ensures.place

pub returns-in-None : goal.returns-in-None
returns-in-None c = before_missing _ c.args.value.now c.in-None.ensures.place
