use Rattle.jac_lang.proofs.Places.{nested_there}
use Rattle.jac_stmt.proofs.loops.is_nested.Goals as goal

pub returns : goal.returns
returns c =
    nested_there c.args.app.now.models c.args.model c.model_at-model.result.now (rw c.as_slice-models.ensures.models at c.model_at-model.ensures.model)
