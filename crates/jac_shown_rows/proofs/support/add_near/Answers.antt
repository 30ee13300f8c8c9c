use Rattle.jac_world.proofs.Bisected.{shows_found}
use Rattle.jac_shown_rows.proofs.support.add_near.Goals as goal

pub returns-then-was_consulted-clause-added : goal.returns-then-was_consulted-clause-added
returns-then-was_consulted-clause-added c =
    shows_found c.args.labels.now.items c.args.label (rw c.as_slice.ensures.value at (c.was_consulted.ensures c.if-was_consulted.true))
