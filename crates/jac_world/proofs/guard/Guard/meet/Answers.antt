use Rattle.std.proofs.Common.{◌≡◌, true, rules}
use Rattle.jac_world.specs.World.{contradict}
use Rattle.jac_world.proofs.Contradict.{contradict_apart}
use Rattle.jac_world.proofs.guard.Guard.meet.Goals as goal

pub returns-in-None-clause-exact : goal.returns-in-None-clause-exact
returns-in-None-clause-exact c w =
    let e : contradict c.args.self.now c.args.other.now ≡ true = search rules in
    contradict_apart _ _ e w
