use Rattle.jac_check.proofs.PathNames.{text_of_name}
use Rattle.jac_check.proofs.paths.name_in.Goals as goal

pub unreachable-requires : goal.unreachable-requires
unreachable-requires c = c.in-Err.ensures.cases.0 (text_of_name c.args.segment.now c.in_ok-name.name.now c.in_ok-name.ensures)
