use Rattle.jac_run_laws.proofs.DoorRuns.{has_served}
use Rattle.jac_run_laws.proofs.laws.serve_answers.Goals as goal

pub returns : goal.returns
returns g c words serving top ran is_serve told = has_served words serving top ran is_serve told
