use Rattle.jac_template.proofs.SiteLaws.{view_keeps_sites}
use Rattle.jac_template.proofs.laws.expansion_keeps_sites.Goals as goal

pub returns : goal.returns
returns c = view_keeps_sites
