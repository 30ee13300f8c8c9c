use Rattle.jac_noninterference.proofs.SideBySide.{pages_agree}
use Rattle.jac_noninterference.proofs.laws.pages_agree.Goals as goal

pub returns : goal.returns
returns c app sessions events one two served served' =
    pages_agree app sessions events one two served served'
