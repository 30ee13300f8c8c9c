use Rattle.jac_facet.specs.Shape.{depth}
use Rattle.jac_facet.proofs.facet.Facet.+map_by.Given as goal

abbrev pub decreases-map_by : goal.decreases-map_by
decreases-map_by g l = depth l.self.now
