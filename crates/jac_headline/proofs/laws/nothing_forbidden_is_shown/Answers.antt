use Rattle.jac_headline.proofs.Faithful.{nothing_forbidden}
use Rattle.jac_headline.proofs.laws.nothing_forbidden_is_shown.Goals as goal

pub returns : goal.returns
returns c lazy app start finish log run = nothing_forbidden lazy app start finish log run
