use Rattle.jac_why.proofs.Explaining.{all_stand}
use Rattle.jac_why.proofs.laws.whys_stand.Goals as goal

pub returns : goal.returns
returns c = all_stand
