use Rattle.std.proofs.Common.{◌∙◌, sym, ap, length}
use Rattle.jac_lang.proofs.Places.{length-entities}
use Rattle.jac_check.proofs.lookups.count.Goals as goal

pub returns : goal.returns
returns c = ap length c.as_slice.ensures.models ∙ sym (length-entities c.args.app.now.models)
