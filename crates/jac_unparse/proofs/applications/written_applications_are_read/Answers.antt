use Rattle.jac_unparse.proofs.AgainApplications.{read_again}
use Rattle.jac_unparse.proofs.applications.written_applications_are_read.Goals as goal

pub returns : goal.returns
returns c = read_again
