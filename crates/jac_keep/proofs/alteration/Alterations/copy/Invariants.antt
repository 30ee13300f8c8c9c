use Rattle.std.proofs.Common.{◌≡◌, take}
use Rattle.jac_keep.proofs.alteration.Alterations.copy.Given as goal

abbrev pub invariant-changed : goal.invariant-changed
invariant-changed l = l.changed.items ≡ take l.alteration-index l.items
