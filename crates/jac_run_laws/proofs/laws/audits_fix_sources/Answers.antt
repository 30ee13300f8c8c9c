use Rattle.jac_run_laws.proofs.SameEntries.{audits_fix_sources}
use Rattle.jac_run_laws.proofs.laws.audits_fix_sources.Goals as goal

pub returns : goal.returns
returns c app sessions events one two served served' same quiet small small' =
    audits_fix_sources app sessions events one two served served' same quiet small small'
