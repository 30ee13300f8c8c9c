use Rattle.jac_headline.proofs.Faithful.{headline}
use Rattle.jac_headline.proofs.laws.headline.Goals as goal

pub returns : goal.returns
returns g c words replay given top ran is_replay held told = headline words replay given top ran is_replay held told
