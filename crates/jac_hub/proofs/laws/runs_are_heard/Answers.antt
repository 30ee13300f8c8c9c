use Rattle.std.proofs.Common.{refl}
use Rattle.jac_hub.specs.Heard.{no_connections}
use Rattle.jac_hub.specs.Channel.{fixed_500}
use Rattle.jac_hub.specs.Hub.{new_hub}
use Rattle.jac_hub.specs.Served.{plain_hearing, sends}
use Rattle.jac_hub.proofs.Plain.{plain-tells}
use Rattle.jac_hub.proofs.Runs.{run-served, served-heard}
use Rattle.jac_hub.proofs.laws.runs_are_heard.Goals as goal

pub returns : goal.returns
returns g c = λ events outs new before after runs.
    let told = sends g.H.Handler.handles in
    let r = run-served plain_hearing c.requests_are_read.ensures g.H.Handler.handles told fixed_500 (plain-tells g.H.Handler.handles)
    events 0 no_connections new_hub new outs before after refl (λ c. tt) runs in
    (r.log, served-heard plain_hearing told fixed_500 events 0 no_connections r.log outs before after r.served, r.served)
