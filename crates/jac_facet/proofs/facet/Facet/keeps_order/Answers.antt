use Rattle.jac_facet.proofs.facet.Facet.keeps_order.Goals as goal

pub returns : goal.returns
returns g c = rw (← c.self.view_is) c.self.invariant
