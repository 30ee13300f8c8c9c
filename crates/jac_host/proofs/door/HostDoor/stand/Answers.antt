use Rattle.jac_host.proofs.HandedLaws.{all_ended}
use Rattle.jac_host.proofs.door.HostDoor.stand.Goals as goal

pub returns : goal.returns
returns g c = all_ended _
