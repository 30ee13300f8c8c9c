use Rattle.jac_hub.proofs.Statuses.{all_sound}
use Rattle.jac_hub.proofs.channel.front.Goals as goal

pub returns-clause-sound : goal.returns-clause-sound
returns-clause-sound c = all_sound c.requests_are_read.ensures c.args.bytes.now c.take_request.result c.take_request.ensures
