use Rattle.std.proofs.Common.{◌≡◌, ℕ, Bool, length}
use Rattle.jac_plain.specs.Expressions.{look}
use Rattle.jac_expr.specs.Seen.{env_at}
use Rattle.jac_expr.proofs.env.innermost.Given as goal

abbrev pub invariant-bindings : goal.invariant-bindings
invariant-bindings l = (w : ℕ → Bool) → look (env_at w l.rest) l.name ≡ look (env_at w l.bindings) l.name

abbrev pub decreases-bindings : goal.decreases-bindings
decreases-bindings l = length l.rest
