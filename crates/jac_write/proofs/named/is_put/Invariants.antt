use Rattle.std.proofs.Common.{◌≡◌, ℕ, Bool, drop}
use Rattle.jac_write.specs.Writes.{is_put, sets_at}
use Rattle.jac_write.proofs.named.is_put.Given as goal

abbrev pub invariant-sets : goal.invariant-sets
invariant-sets l = (w : ℕ → Bool) → is_put (sets_at w (drop l.set-index l.sets)) l.field ≡ is_put (sets_at w l.sets) l.field
