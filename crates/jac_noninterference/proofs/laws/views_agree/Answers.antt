use Rattle.jac_noninterference.proofs.SideBySide.{views_agree}
use Rattle.jac_noninterference.proofs.laws.views_agree.Goals as goal

pub returns : goal.returns
returns c sees app sessions events one two served served' =
    views_agree app sessions events one two served served' sees
