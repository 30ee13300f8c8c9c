use Rattle.std.proofs.Common.{◌≡◌, ◌≤◌, length}
use Rattle.jac_pruned_pages.specs.Places.{last_place}
use Rattle.jac_pruned_pages.proofs.assignments.innermost.Given as goal

abbrev pub invariant-bindings : goal.invariant-bindings
invariant-bindings l = (last_place l.name l.rest ≡ last_place l.name l.bindings) × (length l.rest ≤ length l.bindings)

abbrev pub decreases-bindings : goal.decreases-bindings
decreases-bindings l = length l.rest
