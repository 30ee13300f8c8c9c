use Rattle.jac_sql_spec.specs.Statements.{removal}
use Rattle.jac_sqlkeep.proofs.records.remove.Goals as goal

pub returns-clause-inside : goal.returns-clause-inside
unfolding removal
returns-clause-inside g c =
    rw (c.params-to_sql.ensures, c.from.ensures, c.id_model.ensures, c.params-to_sql-2.ensures, c.as_slice.ensures, c.encode_id-jid.ensures) at c.run.ensures.inside
