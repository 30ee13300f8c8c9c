use Rattle.std.proofs.Common.{◌≡◌, length}
use Rattle.jac_lang.specs.Mirror.{assigned_of}
use Rattle.jac_upgrade.specs.Alike.{same_guards}
use Rattle.jac_upgrade.proofs.likeness.same_guards.Given as goal

abbrev pub invariant-guards : goal.invariant-guards
invariant-guards l = same_guards (assigned_of l.left) (assigned_of l.right) ≡ same_guards (assigned_of l.one) (assigned_of l.other)

abbrev pub decreases-guards : goal.decreases-guards
decreases-guards l = length (assigned_of l.left)
