use Rattle.std.proofs.Common.{length}
use Rattle.std.specs.List.{AllByRecursion}
use Rattle.jac_world.specs.World.{IsApart}
use Rattle.jac_sqlkeep.proofs.alternatives.are_apart.Given as goal

abbrev pub invariant-guards : goal.invariant-guards
invariant-guards l = AllByRecursion (λ g. IsApart g l.guard) l.rest → AllByRecursion (λ g. IsApart g l.guard) l.guards

abbrev pub decreases-guards : goal.decreases-guards
decreases-guards l = length l.rest
