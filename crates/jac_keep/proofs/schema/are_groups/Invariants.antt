use Rattle.std.proofs.Common.{◌≡◌}
use Rattle.jac_tree.specs.Mirror.{plain_all}
use Rattle.jac_keep.specs.Schema.{are_group_trees}
use Rattle.jac_keep.proofs.schema.are_groups.Given as goal

abbrev pub invariant-groups : goal.invariant-groups
invariant-groups l = are_group_trees (plain_all l.left) ≡ are_group_trees (plain_all l.groups)
