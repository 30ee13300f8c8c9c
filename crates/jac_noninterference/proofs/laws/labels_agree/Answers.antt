use Rattle.jac_noninterference.proofs.OpenLabels.{labels_agree}
use Rattle.jac_noninterference.proofs.laws.labels_agree.Goals as goal

pub returns : goal.returns
returns c app sessions events one two served served' plain plain' clear starts none none' reads reads' =
    labels_agree app sessions events one two served served' plain plain' clear starts none none' reads reads'
