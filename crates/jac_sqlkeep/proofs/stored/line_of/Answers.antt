use Rattle.std.proofs.Common.{rules}
use Rattle.jac_sqlkeep.proofs.stored.line_of.Goals as goal

pub returns : goal.returns
returns c = record { shown = search rules; on = c.in_ok-next.ensures }
