use Rattle.jac_hub.specs.Heard.{no_connections}
use Rattle.jac_hub.specs.Served.{plain_hearing}
use Rattle.jac_hub.proofs.Cutting.{pieces-joined}
use Rattle.jac_hub.proofs.laws.any_cutting_is_heard.Goals as goal

pub returns : goal.returns
returns c = λ cut xs ys front events log. pieces-joined plain_hearing c.requests_are_read.ensures cut xs ys front events no_connections 0 log
