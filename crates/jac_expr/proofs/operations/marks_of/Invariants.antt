use Rattle.std.proofs.Common.{◌≡◌, ◌++◌, ℕ, Bool, drop}
use Rattle.jac_expr.specs.Tupled.{all_at, truths}
use Rattle.jac_expr.proofs.operations.marks_of.Given as goal

abbrev pub invariant-values : goal.invariant-values
invariant-values g l = (w : ℕ → Bool) → all_at w l.marks.items ++ truths (all_at w (drop l.value-index l.values)) ≡ truths (all_at w l.values)
