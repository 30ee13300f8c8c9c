use Rattle.std.proofs.Common.{◌∙◌, ap, sym, length}
use Rattle.jac_lang.proofs.Places.{length-entities}
use Rattle.jac_app.proofs.check.model_count.Goals as goal

pub returns : goal.returns
returns c = ap length c.as_slice.ensures.models ∙ sym (length-entities c.args.app.now.models)
