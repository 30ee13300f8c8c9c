use Rattle.std.proofs.Common.{◌≡◌, Some, rules}
use Rattle.jac_sqlkeep.specs.GoesOn.{keeper_same}
use Rattle.jac_sqlkeep.proofs.Attached.{brought_fit, reshaped_now}
use Rattle.jac_sqlkeep.proofs.keeper.SqlKeeperVault.reshape.Goals as goal

pub reshape-requires : goal.reshape-requires
reshape-requires g c =
    let base : c.args.self.now.database ≡ Some c.in-Some.database = search rules in
    record {
      fit = brought_fit c.args.self.now c.in-Some.database c.args.schema.now c.requires.schema.0 c.in-Ok.known.shape.kinds c.in-Ok.known.shape.nested c.args.change.now base c.requires.schema.1 c.in-Ok.ensures.shape c.requires.schema.2;
    }

pub returns-in-Ok-reshape-clause-reshapes : goal.returns-in-Ok-reshape-clause-reshapes
returns-in-Ok-reshape-clause-reshapes g c =
    let base : c.self.inside.database ≡ Some c.in-Some.database = search rules in
    reshaped_now c.self.inside.called c.self.inside.schema c.self.inside.name c.self.inside.faults _ _ c.self.inside.refused c.self.inside.database c.args.self.now c.in-Some.database c.reshape.new.self c.in-Ok.known.schema c.args.schema.now
    c.args.change.now c.in-Ok.known.shape.kinds c.in-Ok.known.shape.nested c.self.view_is base c.in-Ok.ensures.schema c.in-Ok.ensures.shape c.in-Ok-reshape.ensures.reshapes

pub returns-in_default-clause-goes : goal.returns-in_default-clause-goes
returns-in_default-clause-goes g c = keeper_same _ c.args.self.now.database
