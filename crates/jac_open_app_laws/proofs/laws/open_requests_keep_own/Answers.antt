use Rattle.jac_open_app_laws.proofs.OwnedRuns.{start_own, still_own}
use Rattle.jac_open_app_laws.proofs.laws.open_requests_keep_own.Goals as goal

pub returns-clause-start : goal.returns-clause-start
returns-clause-start c = start_own

pub returns-clause-step : goal.returns-clause-step
returns-clause-step c = still_own
