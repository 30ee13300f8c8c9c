use Rattle.jac_plain.proofs.ShownLaws.{same_run}
use Rattle.jac_plain.proofs.laws.same_run_without_groups.Goals as goal

pub returns : goal.returns
returns c = same_run
