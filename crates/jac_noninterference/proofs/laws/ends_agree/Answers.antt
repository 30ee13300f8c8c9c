use Rattle.jac_noninterference.proofs.SideBySide.{ends_agree}
use Rattle.jac_noninterference.proofs.laws.ends_agree.Goals as goal

pub returns : goal.returns
returns c w app sessions events one two served served' =
    ends_agree app sessions events one two served served' w
