use Rattle.jac_run_laws.proofs.FewAnswers.{served_few}
use Rattle.jac_run_laws.proofs.laws.first_answers_are_few.Goals as goal

pub returns : goal.returns
returns g c serving top run = served_few serving top run
