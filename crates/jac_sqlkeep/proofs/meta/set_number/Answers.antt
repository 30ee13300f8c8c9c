use Rattle.std.proofs.Common.{◌≡◌, pos, to_z, of_z, w64, rules}
use Rattle.jac_sql_spec.specs.Statements.{numbering}
use Rattle.jac_sqlkeep.proofs.meta.set_number.Goals as goal

pub returns-in-Ok-clause-inside : goal.returns-in-Ok-clause-inside
unfolding numbering
returns-in-Ok-clause-inside g c =
    let read : to_z w64 (of_z w64 c.in-Ok.number) ≡ pos c.args.number = search rules in
    rw (c.params-to_sql.ensures, read) at c.run.ensures.inside
