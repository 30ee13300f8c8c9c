use Rattle.jac_noninterference.proofs.SideBySide.{worlds_agree}
use Rattle.jac_noninterference.proofs.laws.worlds_agree.Goals as goal

pub returns : goal.returns
returns c w app sessions events one two served served' =
    worlds_agree app sessions events one two served served' w
