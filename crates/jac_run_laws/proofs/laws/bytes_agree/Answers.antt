use Rattle.jac_run_laws.proofs.SameBytes.{bytes_agree}
use Rattle.jac_run_laws.proofs.laws.bytes_agree.Goals as goal

pub returns : goal.returns
returns g c replay one two app sessions events first second out other audit is is' quiet look small small' =
    bytes_agree replay one two app sessions events first second out other audit is is' quiet look small small'
