use Rattle.jac_app_load.proofs.SchemaKinds.{well_schema}
use Rattle.jac_app_load.proofs.laws.schema_of_well.Goals as goal

pub returns : goal.returns
returns c = well_schema
