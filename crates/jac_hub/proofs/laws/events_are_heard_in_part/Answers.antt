use Rattle.jac_hub.specs.Channel.{fixed_500}
use Rattle.jac_hub.specs.Served.{plain_hearing, sends}
use Rattle.jac_hub.proofs.EventParts.{event-served_in_part}
use Rattle.jac_hub.proofs.Plain.{plain-tells}
use Rattle.jac_hub.proofs.laws.events_are_heard_in_part.Goals as goal

pub returns : goal.returns
returns g c = λ n. event-served_in_part plain_hearing c.requests_are_read.ensures g.H.Handler.handles (sends g.H.Handler.handles) fixed_500 n
    (plain-tells g.H.Handler.handles)
