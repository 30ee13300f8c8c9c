use Rattle.jac_sql_spec.specs.Reading.{IsRecordRow}
use Rattle.jac_sqlkeep.proofs.Read.{MadeTo}
use Rattle.jac_sqlkeep.proofs.records.rows_of_record.Given as goal

abbrev pub invariant-found : goal.invariant-found
invariant-found l = MadeTo (IsRecordRow l.id l.kinds) l.found l.values-index l.rows.items
