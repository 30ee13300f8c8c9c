use Rattle.jac_facet.specs.Shape.{IsOrdered}
use Rattle.jac_facet.proofs.Labels.{above_absent}
use Rattle.jac_facet.proofs.facet.Facet.side_without.Goals as goal

pub returns-clause-gone : goal.returns-clause-gone
returns-clause-gone g c =
    let o : IsOrdered c.side-side.result.now = rw (← c.side.view_is) c.side.invariant in
    above_absent c.args.label c.side-side.result.now o (c.side-side.ensures.past c.requires)
