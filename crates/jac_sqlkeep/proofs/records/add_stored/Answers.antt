use Rattle.std.proofs.Common.{w64}
use Rattle.std.proofs.lemmas.Int.{to_z_pos}
use Rattle.jac_sql_spec.specs.Statements.{addition}
use Rattle.jac_sqlkeep.proofs.records.add_stored.Goals as goal

pub returns-clause-inside : goal.returns-clause-inside
unfolding addition
returns-clause-inside g c row is jvars body =
    rw (c.params-to_sql.ensures, c.from-model.ensures, c.id_model.ensures, c.params-to_sql-2.ensures, c.as_slice.ensures, c.encode_id-jid.ensures, ← is, c.params-to_sql-3.ensures, to_z_pos w64 c.args.alt c.requires, c.params-to_sql-4.ensures, c.as_slice-jvars.ensures, jvars, c.params-to_sql-5.ensures, c.as_slice-body.ensures, body) at c.run.ensures.inside
