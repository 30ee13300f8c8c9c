use Rattle.std.proofs.Common.{◌∙◌, ap}
use Rattle.jac_lang.specs.Mirror.{groups_of}
use Rattle.jac_lang.proofs.Places.{groups-there}
use Rattle.jac_upgrade.proofs.schema.groups_of_model.Goals as goal

pub returns-clause-groups : goal.returns-clause-groups
returns-clause-groups c =
    ap groups_of c.as_slice-2.ensures.groups
    ∙ groups-there c.args.app.now.models c.args.model c.model_at-model.result.now (rw c.as_slice.ensures.models at c.model_at-model.ensures.model)
