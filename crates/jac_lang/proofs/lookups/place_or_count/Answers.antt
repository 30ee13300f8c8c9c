use Rattle.std.proofs.Common.{◌∙◌, ap, sym, length}
use Rattle.jac_lang.proofs.Places.{length-entities}
use Rattle.jac_lang.proofs.lookups.place_or_count.Goals as goal

pub returns-in-None : goal.returns-in-None
returns-in-None c = rw (← c.in-None.ensures.place) (ap length c.as_slice.ensures.models ∙ sym (length-entities c.args.models.now))
