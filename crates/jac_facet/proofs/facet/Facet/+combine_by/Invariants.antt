use Rattle.std.proofs.Common.{◌+◌}
use Rattle.jac_facet.specs.Shape.{depth}
use Rattle.jac_facet.proofs.facet.Facet.+combine_by.Given as goal

abbrev pub decreases-combine_by : goal.decreases-combine_by
decreases-combine_by g l = depth l.self.now + depth l.other.now
