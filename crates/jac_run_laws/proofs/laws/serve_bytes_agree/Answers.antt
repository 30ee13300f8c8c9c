use Rattle.jac_run_laws.proofs.DoorRuns.{serve_bytes_agree}
use Rattle.jac_run_laws.proofs.laws.serve_bytes_agree.Goals as goal

pub returns : goal.returns
returns g c serving one two first second told told' files taken same quiet look small small' =
    serve_bytes_agree serving one two first second files told told' taken same quiet look small small'
