use Rattle.jac_lang.specs.Mirror.{entities_of}
use Rattle.jac_upgrade.proofs.Counting.{group_length}
use Rattle.jac_upgrade.proofs.schema.group_count.Goals as goal

pub returns : goal.returns
returns c = group_length c.groups_of_model.result.now (entities_of c.args.app.now.models) c.args.model c.groups_of_model.ensures.groups
