use Rattle.std.proofs.Common.{◌≡◌, ◌++◌, drop}
use Rattle.jac_lazy.proofs.page.copied.Given as goal

abbrev pub invariant-bindings : goal.invariant-bindings
invariant-bindings l = l.bindings.items ++ drop l.one-index l.env ≡ l.env
