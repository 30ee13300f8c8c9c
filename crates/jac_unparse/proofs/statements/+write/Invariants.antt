use Rattle.std.proofs.Common.{◌≡◌, ◌≤◌, ◌+◌, ◌*◌, max}
use Rattle.jac_lang.specs.Mirror.{statements_of}
use Rattle.jac_lang.specs.declared.statements.Stmt.{size-Stmt}
use Rattle.jac_lang.specs.declared.statements.Stmts.{size-Stmts}
use Rattle.jac_tree.specs.Mirror.{plain_all}
use Rattle.jac_tree.specs.Plain.{onto}
use Rattle.jac_unparse.specs.TreeOf.{trees_of_statements}
use Rattle.jac_unparse.proofs.statements.+write.Given as goal

-- The trees so far in reverse order, followed by those of the rest, are all trees.
abbrev pub invariant-stmt_trees-statements : goal.invariant-stmt_trees-statements
invariant-stmt_trees-statements l = record {
  no_deeper : size-Stmts l.left ≤ size-Stmts l.body;
  made : onto (plain_all l.back) (trees_of_statements (statements_of l.left)) ≡ trees_of_statements (statements_of l.body);
}

abbrev pub decreases-stmt_tree : goal.decreases-stmt_tree
decreases-stmt_tree l = 4 * size-Stmt l.statement.now

abbrev pub decreases-stmt_trees : goal.decreases-stmt_trees
decreases-stmt_trees l = 4 * size-Stmts l.body.now

abbrev pub decreases-let_tree : goal.decreases-let_tree
decreases-let_tree l = 4 * size-Stmts l.body.now + 1

abbrev pub decreases-if_tree : goal.decreases-if_tree
decreases-if_tree l = 4 * max (size-Stmts l.then.now) (size-Stmts l.other.now) + 1

abbrev pub decreases-for_tree : goal.decreases-for_tree
decreases-for_tree l = 4 * size-Stmts l.body.now + 1

abbrev pub decreases-create_tree : goal.decreases-create_tree
decreases-create_tree l = 4 * size-Stmts l.body.now + 1

abbrev pub decreases-block_tree : goal.decreases-block_tree
decreases-block_tree l = 4 * size-Stmts l.body.now + 1
