use Rattle.std.proofs.Common.{◌≡◌}
use Rattle.jac_lang.specs.Mirror.{assigned_of}
use Rattle.jac_check.specs.Statements.{cells_inside}
use Rattle.jac_check.specs.Mirror.{scope_of}
use Rattle.jac_check.proofs.cells.cells_inside.Given as goal

abbrev pub invariant-cells : goal.invariant-cells
invariant-cells l = cells_inside (scope_of l.scope) (assigned_of l.left) ≡ cells_inside (scope_of l.scope) (assigned_of l.cells)
