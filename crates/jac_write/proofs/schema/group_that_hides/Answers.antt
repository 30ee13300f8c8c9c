use Rattle.jac_lang.specs.Mirror.{entities_of}
use Rattle.jac_write.proofs.SchemaLaws.{hiding_few}
use Rattle.jac_write.proofs.schema.group_that_hides.Goals as goal

pub returns-clause-few : goal.returns-clause-few
returns-clause-few c =
    hiding_few c.groups_of_model.result.now (entities_of c.args.app.now.models) c.args.model c.hiding_group.result
    c.groups_of_model.ensures.groups c.groups_of_model.ensures.few c.hiding_group.ensures
