use Rattle.std.proofs.Common.{◌≡◌, length}
use Rattle.jac_plain.specs.Expressions.{look}
use Rattle.jac_shown_rows.proofs.scope.innermost.Given as goal

abbrev pub invariant-bindings : goal.invariant-bindings
invariant-bindings l = look l.rest l.name ≡ look l.env l.name

abbrev pub decreases-bindings : goal.decreases-bindings
decreases-bindings l = length l.rest
