use Rattle.std.proofs.Common.{rules}
use Rattle.jac_world.specs.World.{IsRising}
use Rattle.jac_world.proofs.Contradict.{can_hold}
use Rattle.jac_world.proofs.guard.Guard.pairs.Goals as goal

pub returns-clause-can_be_met : goal.returns-clause-can_be_met
returns-clause-can_be_met c =
    let r : IsRising c.args.self.now = search rules in
    can_hold c.args.self.now r
