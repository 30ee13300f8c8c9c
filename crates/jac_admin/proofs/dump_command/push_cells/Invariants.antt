use Rattle.std.proofs.Common.{◌≡◌, ◌++◌, length}
use Rattle.jac_admin.specs.Dump.{cells_text}
use Rattle.jac_admin.proofs.dump_command.push_cells.Given as goal

-- The text so far, followed by that of the cells left, is the result.
abbrev pub invariant-cells : goal.invariant-cells
invariant-cells l = l.text.items ++ cells_text l.fields l.values ≡ l.fn.text.items ++ cells_text l.fn.fields l.fn.values

abbrev pub decreases-cells : goal.decreases-cells
decreases-cells l = length l.fields
