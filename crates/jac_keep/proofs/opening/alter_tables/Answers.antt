use Rattle.jac_index.proofs.Pairs.{on_ok}
use Rattle.jac_keep.proofs.ReshapingLaws.{widened_none}
use Rattle.jac_keep.specs.Alterations.{overlaid}
use Rattle.std.proofs.Common.{◌∙◌}
use Rattle.jac_keep.proofs.opening.alter_tables.Goals as goal

pub returns-clause-ok : goal.returns-clause-ok
returns-clause-ok c = on_ok c.reshape_tables.result _ _ (λ same. same ∙ widened_none (overlaid c.args.changed.now c.args.tables.now)) c.reshape_tables.ensures.ok
