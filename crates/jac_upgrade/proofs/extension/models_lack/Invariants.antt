use Rattle.std.proofs.Common.{◌≡◌, ◌+◌, length}
use Rattle.jac_lang.specs.Mirror.{entities_of}
use Rattle.jac_upgrade.specs.Extends.{models_lack}
use Rattle.jac_upgrade.proofs.extension.models_lack.Given as goal

abbrev pub invariant-models : goal.invariant-models
invariant-models l = (l.model + length l.left ≡ length l.olds) × (models_lack l.model (entities_of l.left) (entities_of l.right) ≡ models_lack 0 (entities_of l.olds) (entities_of l.news))

abbrev pub decreases-models : goal.decreases-models
decreases-models l = length l.left
