use Rattle.std.proofs.Common.{◌≡◌, ◌+◌, length}
use Rattle.jac_upgrade.specs.Extends.{fields_lack}
use Rattle.jac_upgrade.proofs.extension.fields_lack.Given as goal

abbrev pub invariant-fields : goal.invariant-fields
invariant-fields l = (l.field + length l.left ≡ length l.olds) × (fields_lack l.model l.field l.left l.right ≡ fields_lack l.model 0 l.olds l.news)

abbrev pub decreases-fields : goal.decreases-fields
decreases-fields l = length l.left
