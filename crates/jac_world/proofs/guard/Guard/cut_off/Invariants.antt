use Rattle.std.proofs.Common.{length}
use Rattle.jac_world.proofs.Cutting.{Cutting}
use Rattle.jac_world.proofs.guard.Guard.cut_off.Given as goal

abbrev pub invariant-cut : goal.invariant-cut
invariant-cut l = Cutting l.self l.cut l.items.items l.prefix l.rest

abbrev pub decreases-cut : goal.decreases-cut
decreases-cut l = length l.rest
