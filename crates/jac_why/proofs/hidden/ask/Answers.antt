use Rattle.jac_world.specs.World.{shown_by}
use Rattle.jac_shown_rows.proofs.Growing.{agrees_same}
use Rattle.jac_why.proofs.hidden.ask.Goals as goal

pub returns-clause-answer : goal.returns-clause-answer
returns-clause-answer g c told = c.in_ok-holds.ensures.value told (shown_by c.args.a.now) (agrees_same _ (shown_by c.args.a.now))
