use Rattle.jac_tree.proofs.Total.{each_read}
use Rattle.jac_tree.proofs.read.each_text_is_read.Goals as goal

pub returns : goal.returns
returns c = each_read
