use Rattle.std.proofs.Common.{◌+◌, length}
use Rattle.jac_facet.specs.Shape.{depth}
use Rattle.jac_facet.proofs.facet.Facet.+under_pairs.Given as goal

abbrev pub decreases-under_pairs : goal.decreases-under_pairs
decreases-under_pairs g l = depth l.new.now + depth l.old.now + length l.pairs.now
