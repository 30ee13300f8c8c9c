use Rattle.std.proofs.Common.{◌≡◌, drop}
use Rattle.jac_keep.specs.Alterations.{alters}
use Rattle.jac_keep.proofs.alteration.is_altered.Given as goal

abbrev pub invariant-changed : goal.invariant-changed
invariant-changed l = alters l.model (drop l.alteration-index l.changed) ≡ alters l.model l.changed
