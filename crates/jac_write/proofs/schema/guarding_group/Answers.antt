use Rattle.jac_lang.specs.Mirror.{entities_of}
use Rattle.jac_write.proofs.SchemaLaws.{group_few}
use Rattle.jac_write.proofs.schema.guarding_group.Goals as goal

pub returns-clause-few : goal.returns-clause-few
returns-clause-few c =
    group_few c.groups_of_model.result.now (entities_of c.args.app.now.models) c.args.model c.args.field c.group_of.result
    c.groups_of_model.ensures.groups c.groups_of_model.ensures.few c.group_of.ensures
