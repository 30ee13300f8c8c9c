use Rattle.jac_dispatch.specs.Seen.{whose}
use Rattle.jac_dispatch.proofs.DispatcherLaws.{lawful}
use Rattle.jac_dispatch.proofs.handler.AppDispatcherDispatch.lawful.Goals as goal

pub returns : goal.returns
returns g c = lawful (whose c.args.self.now)
