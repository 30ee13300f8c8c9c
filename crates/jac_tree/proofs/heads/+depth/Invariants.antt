use Rattle.std.proofs.Common.{◌≡◌, ◌≤◌, nat_le}
use Rattle.jac_tree.specs.Mirror.{plain_all}
use Rattle.jac_tree.specs.Plain.{nesting_all}
use Rattle.jac_tree.specs.declared.tree.Trees.{size-Trees}
use Rattle.jac_tree.proofs.heads.+depth.Given as goal

-- The trees that are left are within the levels exactly if all trees are.
abbrev pub invariant-nest_within-trees : goal.invariant-nest_within-trees
invariant-nest_within-trees l = record {
  no_deeper : size-Trees l.left ≤ size-Trees l.trees;
  same : nat_le (nesting_all (plain_all l.left)) l.levels ≡ nat_le (nesting_all (plain_all l.trees)) l.levels;
}
