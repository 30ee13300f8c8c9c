use Rattle.std.proofs.Common.{refl}
use Rattle.jac_sqlkeep.proofs.records.add.Goals as goal

pub returns-in-Ok-clause-inside : goal.returns-in-Ok-clause-inside
returns-in-Ok-clause-inside g c = c.add_stored.ensures.inside c.args.row.now refl c.in-Ok.ensures.jvars c.in-Ok.ensures.body
