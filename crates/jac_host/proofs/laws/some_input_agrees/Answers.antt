use Rattle.jac_host.proofs.InputLaws.{given_agrees}
use Rattle.jac_host.proofs.laws.some_input_agrees.Goals as goal

pub returns : goal.returns
returns c events ends = given_agrees events ends
