use Rattle.jac_template.proofs.Frames.{pushed}
use Rattle.jac_template.proofs.blocks.push_frame.Goals as goal

pub returns : goal.returns
returns c = pushed _ _ _ c.in_ok-push.ensures.items
