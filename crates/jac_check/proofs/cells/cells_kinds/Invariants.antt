use Rattle.std.proofs.Common.{◌≡◌}
use Rattle.jac_lang.specs.Mirror.{application_of, assigned_of}
use Rattle.jac_check.specs.Scope.{fields_of}
use Rattle.jac_check.specs.Statements.{cells_kinds}
use Rattle.jac_check.specs.Mirror.{scope_of}
use Rattle.jac_check.proofs.cells.cells_kinds.Given as goal

abbrev pub invariant-cells : goal.invariant-cells
invariant-cells l =
    let fields = fields_of (application_of l.scope.app.now).models l.model in
    cells_kinds (scope_of l.scope) fields (assigned_of l.left) ≡ cells_kinds (scope_of l.scope) fields (assigned_of l.cells)
