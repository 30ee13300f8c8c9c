use Rattle.std.proofs.Common.{◌≡◌}
use Rattle.jac_tree.specs.Mirror.{plain_all}
use Rattle.jac_keep.specs.Schema.{are_name_trees}
use Rattle.jac_keep.proofs.schema.are_named.Given as goal

abbrev pub invariant-names : goal.invariant-names
invariant-names l = are_name_trees (plain_all l.left) ≡ are_name_trees (plain_all l.trees)
