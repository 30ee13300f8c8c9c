use Rattle.std.proofs.Common.{◌∙◌, ap, length}
use Rattle.jac_lang.proofs.Places.{fields-there}
use Rattle.jac_stmt.proofs.drafts.field_count.Goals as goal

pub returns : goal.returns
returns c =
    ap length (c.as_slice.ensures ∙ fields-there c.args.app.now.models c.args.model c.model_at-model.result.now (rw c.as_slice-models.ensures.models at c.model_at-model.ensures.model))
