use Rattle.jac_resolve.proofs.Collecting as lemmas
use Rattle.jac_resolve.proofs.laws.live_by_rows.Goals as goal

pub returns : goal.returns
returns c = lemmas.live_by_rows
