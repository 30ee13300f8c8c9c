use Rattle.std.proofs.Common.{◌≡◌, ◌++◌, ℕ, Bool, drop}
use Rattle.jac_expr.specs.Seen.{env_at}
use Rattle.jac_engine.proofs.parameters.alike.Given as goal

-- The bindings so far, followed by those that are left, are all of them.
abbrev pub invariant-bindings : goal.invariant-bindings
invariant-bindings l = (w : ℕ → Bool) → env_at w l.env.items ++ drop l.binding-index l.bindings ≡ l.bindings
