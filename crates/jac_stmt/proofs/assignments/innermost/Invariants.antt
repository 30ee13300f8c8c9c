use Rattle.std.proofs.Common.{◌≡◌, ◌≤◌, length}
use Rattle.jac_stmt.specs.Places.{last_name_place}
use Rattle.jac_stmt.proofs.assignments.innermost.Given as goal

abbrev pub invariant-bindings : goal.invariant-bindings
invariant-bindings l = (last_name_place l.name l.rest ≡ last_name_place l.name l.bindings) × (length l.rest ≤ length l.bindings)

abbrev pub decreases-bindings : goal.decreases-bindings
decreases-bindings l = length l.rest
