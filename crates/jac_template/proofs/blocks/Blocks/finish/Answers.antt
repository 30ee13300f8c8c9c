use Rattle.jac_template.proofs.Frames.{unclosed}
use Rattle.jac_template.proofs.blocks.Blocks.finish.Goals as goal

pub returns-in-Some-clause-fault : goal.returns-in-Some-clause-fault
returns-in-Some-clause-fault c = unclosed _ _ c.in-Some.frame c.in-Some.ensures.items
