use Rattle.std.proofs.Common.{◌≡◌, ◌++◌, drop}
use Rattle.jac_expr.proofs.env.Env.copy.Given as goal

abbrev pub invariant-bindings : goal.invariant-bindings
invariant-bindings l = l.bindings.items ++ drop l.binding-index l.all ≡ l.all
