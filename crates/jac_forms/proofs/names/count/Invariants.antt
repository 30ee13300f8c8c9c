use Rattle.std.proofs.Common.{◌≡◌, ◌+◌}
use Rattle.jac_tree.specs.Mirror.{plain_all}
use Rattle.jac_forms.proofs.names.count.Given as goal
use Rattle.jac_tree.specs.Plain.{count}

-- The number of trees so far plus that of the rest is the number of all trees.
abbrev pub invariant-trees : goal.invariant-trees
invariant-trees l = l.number + count (plain_all l.left) ≡ count (plain_all l.trees)
