use Rattle.jac_resolve.proofs.Collecting.{first_is_seen}
use Rattle.jac_resolve.proofs.live.can_be_seen.Goals as goal

pub returns-in-Some : goal.returns-in-Some
returns-in-Some c = first_is_seen c.args.rows.now c.in-Some.row.now c.in-Some.ensures.value c.pairs.ensures.can_be_met
