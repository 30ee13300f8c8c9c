use Rattle.jac_run_laws.proofs.AuditLines.{none_failed}
use Rattle.jac_run_laws.proofs.laws.audits_tell_failures.Goals as goal

pub returns : goal.returns
returns c = none_failed
