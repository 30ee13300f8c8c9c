use Rattle.jac_noninterference.proofs.SideBySide.{all_is_seen}
use Rattle.jac_noninterference.proofs.laws.all_is_seen.Goals as goal

pub returns : goal.returns
returns c app sessions events run served whole = all_is_seen app sessions events run served whole
