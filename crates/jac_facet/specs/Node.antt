use Rattle.jac_facet.specs.Shape.{Shape, one, fork}
use Rattle.jac_facet.specs.declared.facet.Node.{Node}
use Rattle.jac_facet.specs.declared.facet.Node.TheVariants.{Leaf, Split}

abbrev pub shape_of : {T : Type 0} → Node T → Shape T
shape_of (Leaf x) = one x
shape_of (Split k h l) = fork k h.value l.value
