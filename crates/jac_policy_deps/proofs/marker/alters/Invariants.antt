use Rattle.std.proofs.Common.{◌≡◌, drop}
use Rattle.jac_keep.specs.Alterations.{alters}
use Rattle.jac_policy_deps.proofs.marker.alters.Given as goal

abbrev pub invariant-over : goal.invariant-over
invariant-over l = alters l.model (drop l.alteration-index l.over) ≡ alters l.model l.over
