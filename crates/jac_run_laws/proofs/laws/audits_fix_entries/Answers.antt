use Rattle.jac_run_laws.proofs.AuditLines.{entries_by_text}
use Rattle.jac_run_laws.proofs.laws.audits_fix_entries.Goals as goal

pub returns : goal.returns
returns c log others small small' same = entries_by_text 1 log others small small' same
