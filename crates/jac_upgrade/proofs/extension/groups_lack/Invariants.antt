use Rattle.std.proofs.Common.{◌≡◌, ◌+◌, length}
use Rattle.jac_lang.specs.Mirror.{groups_of}
use Rattle.jac_upgrade.specs.Extends.{groups_lack}
use Rattle.jac_upgrade.proofs.extension.groups_lack.Given as goal

abbrev pub invariant-groups : goal.invariant-groups
invariant-groups l = (l.group + length l.left ≡ length l.olds) × (groups_lack l.model l.group (groups_of l.left) (groups_of l.right) ≡ groups_lack l.model 0 (groups_of l.olds) (groups_of l.news))

abbrev pub decreases-groups : goal.decreases-groups
decreases-groups l = length l.left
