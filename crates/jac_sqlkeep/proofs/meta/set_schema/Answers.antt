use Rattle.std.proofs.Common.{◌≡◌, pos, to_z, of_z, w64, rules}
use Rattle.jac_sql_spec.specs.Statements.{reshaping}
use Rattle.jac_sqlkeep.proofs.meta.set_schema.Goals as goal

pub returns-in-Ok-clause-inside : goal.returns-in-Ok-clause-inside
unfolding reshaping
returns-in-Ok-clause-inside g c =
    let read : to_z w64 (of_z w64 c.in-Ok.number) ≡ pos c.args.number = search rules in
    rw (c.params-to_sql-in-Ok.ensures, c.params-to_sql.ensures, read, c.as_str.ensures) at c.run.ensures.inside
