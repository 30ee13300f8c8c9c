use Rattle.jac_template.proofs.Total.{each_expands}
use Rattle.jac_template.proofs.laws.each_text_expands.Goals as goal

pub returns : goal.returns
returns c = each_expands
