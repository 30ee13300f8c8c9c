use Rattle.jac_template.proofs.OneExpansion.{one_application}
use Rattle.jac_template.proofs.Runs.{one_expansion}
use Rattle.jac_template.proofs.laws.expands_to_one.Goals as goal

pub returns : goal.returns
returns c = record { text = one_expansion; application = one_application }
