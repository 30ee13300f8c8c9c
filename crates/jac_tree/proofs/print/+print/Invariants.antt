use Rattle.std.proofs.Common.{◌≡◌, ◌≤◌, ◌++◌, string_bytes}
use Rattle.jac_tree.specs.Mirror.{plain_all}
use Rattle.jac_tree.specs.Printed.{printed_after}
use Rattle.jac_tree.specs.declared.tree.Trees.{size-Trees}
use Rattle.jac_tree.proofs.print.+print.Given as goal

-- The text so far, followed by the trees that are left, is the text of all trees.
abbrev pub invariant-put_after-trees : goal.invariant-put_after-trees
invariant-put_after-trees l = record {
  no_deeper : size-Trees l.left ≤ size-Trees l.trees;
  put : string_bytes l.to ++ printed_after (plain_all l.left) ≡ string_bytes l.fn.to ++ printed_after (plain_all l.trees);
}
