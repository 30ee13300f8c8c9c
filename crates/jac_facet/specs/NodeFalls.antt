use Rattle.std.specs.Prelude.{◌≤◌, max}
use Rattle.std.proofs.Common.{arith}
use Rattle.jac_facet.specs.Shape.{depth}
use Rattle.jac_facet.specs.Node.{shape_of}
use Rattle.jac_facet.specs.declared.facet.Node.{Node}
use Rattle.jac_facet.specs.declared.facet.Node.TheVariants.{Leaf, Split}
use Rattle.jac_facet.specs.declared.facet.Facet.TheDeep.{deep-Node}

pub deep_le-depth : {T : Type 0} (n : Node T) → max (deep-Node T n) 0 ≤ depth (shape_of n)
deep_le-depth {T} (Leaf x) = omega arith
deep_le-depth {T} (Split k h l) = omega arith
