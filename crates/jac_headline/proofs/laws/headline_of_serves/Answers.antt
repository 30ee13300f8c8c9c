use Rattle.jac_headline.proofs.Visits.{served_faithfully}
use Rattle.jac_headline.proofs.laws.headline_of_serves.Goals as goal

pub returns : goal.returns
returns g c words serving top ran is_serve ended = served_faithfully words serving top ran is_serve ended
