use Rattle.std.proofs.Common.{◌∙◌}
use Rattle.jac_world.proofs.Bisected.{among}
use Rattle.jac_shown_rows.proofs.support.is_found.Goals as goal

pub returns : goal.returns
returns c = c.is_ok.ensures.value ∙ among c.args.shown.now c.args.label c.binary_search-found.result c.requires c.binary_search-found.ensures.position
