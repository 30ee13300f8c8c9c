use Rattle.jac_lazy.proofs.Trying.{law_pages}
use Rattle.jac_lazy.proofs.laws.steady_pages.Goals as goal

pub returns : goal.returns
returns c = law_pages
