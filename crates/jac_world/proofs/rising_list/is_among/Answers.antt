use Rattle.std.proofs.Common.{◌∙◌}
use Rattle.jac_world.proofs.Bisected.{among}
use Rattle.jac_world.proofs.rising_list.is_among.Goals as goal

pub returns : goal.returns
returns c = c.is_ok.ensures.value ∙ among c.args.labels.now c.args.label c.binary_search.result c.requires c.binary_search.ensures.position
