use Rattle.jac_row_merge.proofs.Placed.{joins}
use Rattle.jac_row_merge.proofs.merge.join.Goals as goal

pub returns-clause-shown : goal.returns-clause-shown
returns-clause-shown c = joins c.args.one c.args.other c.in-Some.guard c.requires (rw c.in-Some.is at c.in_ok-guard.ensures.joined)
