use Rattle.std.proofs.Common.{◌∙◌}
use Rattle.jac_lang.proofs.Places.{fields-there}
use Rattle.jac_upgrade.proofs.schema.fields_of.Goals as goal

pub returns-clause-fields : goal.returns-clause-fields
returns-clause-fields c =
    c.as_slice-2.ensures
    ∙ fields-there c.args.app.now.models c.args.model c.model_at-model.result.now (rw c.as_slice.ensures.models at c.model_at-model.ensures.model)
