use Rattle.std.proofs.Common.{◌≡◌, drop}
use Rattle.jac_lang.specs.Mirror.{groups_of}
use Rattle.jac_tree.specs.Mirror.{plain_all}
use Rattle.jac_tree.specs.Plain.{onto}
use Rattle.jac_unparse.specs.TreeOf.{trees_of_groups}
use Rattle.jac_unparse.proofs.applications.group_trees.Given as goal

-- The trees so far in reverse order, followed by those of the rest, are all trees.
abbrev pub invariant-groups : goal.invariant-groups
invariant-groups l = onto (plain_all l.back) (trees_of_groups (groups_of (drop l.group-index l.groups))) ≡ trees_of_groups (groups_of l.groups)
