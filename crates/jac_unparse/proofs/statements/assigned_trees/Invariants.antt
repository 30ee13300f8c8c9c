use Rattle.std.proofs.Common.{◌≡◌}
use Rattle.jac_lang.specs.Mirror.{assigned_of}
use Rattle.jac_tree.specs.Mirror.{plain_all}
use Rattle.jac_tree.specs.Plain.{onto}
use Rattle.jac_unparse.specs.TreeOf.{trees_of_assigned}
use Rattle.jac_unparse.proofs.statements.assigned_trees.Given as goal

-- The trees so far in reverse order, followed by those of the rest, are all trees.
abbrev pub invariant-cells : goal.invariant-cells
invariant-cells l = onto (plain_all l.back) (trees_of_assigned (assigned_of l.left)) ≡ trees_of_assigned (assigned_of l.cells)
