use Rattle.jac_run_laws.proofs.DoorRuns.{serves_alike}
use Rattle.jac_run_laws.proofs.laws.serves_agree.Goals as goal

pub returns : goal.returns
returns g c serving one two first second told told' files taken none none' =
    (serves_alike serving one two first second files told told' taken none none').entries
