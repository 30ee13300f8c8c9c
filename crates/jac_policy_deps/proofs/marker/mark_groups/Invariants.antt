use Rattle.std.proofs.Common.{◌≡◌, ◌≤◌, ◌+◌, ◌++◌, length}
use Rattle.jac_lang.specs.Mirror.{application_of, groups_of}
use Rattle.jac_policy_deps.specs.Marks.{groups_marks}
use Rattle.jac_policy_deps.proofs.marker.mark_groups.Given as goal

abbrev pub invariant-groups : goal.invariant-groups
invariant-groups l =
    (l.marks.items ++ groups_marks (application_of l.app).models l.model l.group l.over l.rows (groups_of l.left)
    ≡ l.fn.marks.items ++ groups_marks (application_of l.app).models l.model 0 l.over l.rows (groups_of l.groups))
    × (l.group + length l.left ≤ 8)

abbrev pub decreases-groups : goal.decreases-groups
decreases-groups l = length l.left
