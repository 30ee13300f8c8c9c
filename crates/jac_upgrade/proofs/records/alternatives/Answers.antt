use Rattle.std.proofs.Common.{◌∙◌}
use Rattle.jac_lang.specs.Mirror.{entities_of}
use Rattle.jac_write.specs.Writes.{cells_at}
use Rattle.jac_upgrade.proofs.Drafted.{upgraded_drafts}
use Rattle.jac_upgrade.proofs.records.alternatives.Goals as goal

pub returns-clause-shown : goal.returns-clause-shown
returns-clause-shown g c w few =
    upgraded_drafts w (entities_of c.args.old.now.models) (entities_of c.args.new.now.models) c.args.model c.args.id c.group_count-first.result c.args.rows.now
    c.as_slice-drafts.result.now (cells_at w c.in_ok-rows.rows) (c.as_slice-drafts.ensures.value ∙ c.in_ok-drafts.ensures) c.group_count-first.ensures
    (c.in_ok-rows.ensures.shown w) few
