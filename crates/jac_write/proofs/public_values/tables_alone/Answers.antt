use Rattle.std.proofs.Common.{arith}
use Rattle.jac_write.specs.Writes.{only}
use Rattle.jac_write.proofs.AloneLaws.{pushed}
use Rattle.jac_write.proofs.public_values.tables_alone.Goals as goal

pub models-preserved : goal.models-preserved
models-preserved c =
    pushed c.models.tables.items c.push.new.self.items c.empty.result c.models.left c.args.row (only c.args.model c.args.row)
    c.in_ok-push.ensures.items c.empty.ensures (grind (arith, c.models-test.true)) c.models.invariant
