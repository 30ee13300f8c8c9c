use Rattle.std.proofs.Common.{◌≡◌, ◌++◌, drop}
use Rattle.jac_policy_deps.specs.Marks.{marked_groups}
use Rattle.jac_policy_deps.proofs.invalidation.groups_in.Given as goal

abbrev pub invariant-marks : goal.invariant-marks
invariant-marks l = l.groups.items ++ marked_groups (drop l.mark-index l.marks) ≡ marked_groups l.marks
