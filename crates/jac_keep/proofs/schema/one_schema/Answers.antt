use Rattle.jac_keep.proofs.SchemaLaws.{schema_one}
use Rattle.jac_keep.proofs.schema.one_schema.Goals as goal

pub returns : goal.returns
returns c = schema_one
