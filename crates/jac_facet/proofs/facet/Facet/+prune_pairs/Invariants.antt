use Rattle.std.proofs.Common.{◌+◌, length}
use Rattle.jac_facet.specs.Shape.{depth}
use Rattle.jac_facet.proofs.facet.Facet.+prune_pairs.Given as goal

abbrev pub decreases-prune_pairs : goal.decreases-prune_pairs
decreases-prune_pairs g l = depth l.self.now + length l.pairs.now
