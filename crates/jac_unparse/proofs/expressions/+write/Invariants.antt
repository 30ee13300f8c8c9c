use Rattle.std.proofs.Common.{◌≡◌, ◌≤◌, ◌+◌, ◌*◌, max}
use Rattle.jac_lang.specs.Mirror.{expressions_of}
use Rattle.jac_lang.specs.declared.expressions.Expr.{size-Expr}
use Rattle.jac_lang.specs.declared.expressions.Exprs.{size-Exprs}
use Rattle.jac_lang.specs.declared.expressions.Query.{size-Query}
use Rattle.jac_tree.specs.Mirror.{plain_all}
use Rattle.jac_tree.specs.Plain.{onto}
use Rattle.jac_unparse.specs.TreeOf.{trees_of_expressions}
use Rattle.jac_unparse.proofs.expressions.+write.Given as goal

-- The trees so far in reverse order, followed by those of the rest, are all trees.
abbrev pub invariant-part_trees-parts : goal.invariant-part_trees-parts
invariant-part_trees-parts l = record {
  no_deeper : size-Exprs l.left ≤ size-Exprs l.parts;
  made : onto (plain_all l.back) (trees_of_expressions (expressions_of l.left)) ≡ trees_of_expressions (expressions_of l.parts);
}

abbrev pub decreases-expr_tree : goal.decreases-expr_tree
decreases-expr_tree l = 4 * size-Expr l.expr.now

abbrev pub decreases-query_tree : goal.decreases-query_tree
decreases-query_tree l = 4 * size-Query l.query.now

abbrev pub decreases-one_operand : goal.decreases-one_operand
decreases-one_operand l = 4 * size-Expr l.operand.now + 1

abbrev pub decreases-two_operands : goal.decreases-two_operands
decreases-two_operands l = 4 * max (size-Expr l.first.now) (size-Expr l.second.now) + 1

abbrev pub decreases-get_tree : goal.decreases-get_tree
decreases-get_tree l = 4 * size-Expr l.reference.now + 1

abbrev pub decreases-pick_tree : goal.decreases-pick_tree
decreases-pick_tree l = 4 * max (size-Expr l.cond.now) (max (size-Expr l.then.now) (size-Expr l.other.now)) + 1

abbrev pub decreases-cat_tree : goal.decreases-cat_tree
decreases-cat_tree l = 4 * size-Exprs l.parts.now + 1

abbrev pub decreases-part_trees : goal.decreases-part_trees
decreases-part_trees l = 4 * size-Exprs l.parts.now

abbrev pub decreases-one_query : goal.decreases-one_query
decreases-one_query l = 4 * size-Query l.query.now + 1

abbrev pub decreases-sum_tree : goal.decreases-sum_tree
decreases-sum_tree l = 4 * max (size-Query l.query.now) (size-Expr l.each.now) + 1
