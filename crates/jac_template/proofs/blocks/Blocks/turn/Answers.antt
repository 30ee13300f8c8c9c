use Rattle.std.proofs.Common.{refl}
use Rattle.jac_template.proofs.Frames.{turns}
use Rattle.jac_template.proofs.blocks.Blocks.turn.Goals as goal

pub returns-in-Then-clause-taken : goal.returns-in-Then-clause-taken
returns-in-Then-clause-taken c = rw (turns _ _ c.in-Some.frame _ _ c.in-Some.ensures.items c.in-Then.is) c.begin_else.ensures.taken

pub returns-in-Let-clause-fault : goal.returns-in-Let-clause-fault
returns-in-Let-clause-fault c told = (turns _ _ c.in-Some.frame _ _ c.in-Some.ensures.items c.in-Let.is, refl)

pub returns-in-Else-clause-fault : goal.returns-in-Else-clause-fault
returns-in-Else-clause-fault c told = (turns _ _ c.in-Some.frame _ _ c.in-Some.ensures.items c.in-Else.is, refl)

pub returns-clause-fault : goal.returns-clause-fault
returns-clause-fault c told = (turns _ _ c.in-Some.frame _ _ c.in-Some.ensures.items c.in-For.is, refl)
