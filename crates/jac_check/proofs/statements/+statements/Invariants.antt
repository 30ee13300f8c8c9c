use Rattle.std.proofs.Common.{◌≡◌, ◌≤◌, ◌+◌, ◌*◌, max}
use Rattle.jac_lang.specs.declared.statements.Stmt.{size-Stmt}
use Rattle.jac_lang.specs.declared.statements.Stmts.{size-Stmts}
use Rattle.jac_lang.specs.Mirror.{statements_of}
use Rattle.jac_check.specs.Statements.{body_fault}
use Rattle.jac_check.specs.Mirror.{standing_of}
use Rattle.jac_check.proofs.statements.+statements.Given as goal

-- The statements so far have no fault.
abbrev pub invariant-body_fault-statements : goal.invariant-body_fault-statements
invariant-body_fault-statements l = record {
  no_deeper : size-Stmts l.left ≤ size-Stmts l.body;
  left : body_fault (standing_of l.at) (statements_of l.left) ≡ body_fault (standing_of l.at) (statements_of l.body);
}

abbrev pub decreases-statement_fault : goal.decreases-statement_fault
decreases-statement_fault l = 4 * size-Stmt l.statement.now

abbrev pub decreases-body_fault : goal.decreases-body_fault
decreases-body_fault l = 4 * size-Stmts l.body.now

abbrev pub decreases-bound_fault : goal.decreases-bound_fault
decreases-bound_fault l = 4 * size-Stmts l.body.now + 1

abbrev pub decreases-let_fault : goal.decreases-let_fault
decreases-let_fault l = 4 * size-Stmts l.body.now + 2

abbrev pub decreases-create_and_body_fault : goal.decreases-create_and_body_fault
decreases-create_and_body_fault l = 4 * size-Stmts l.body.now + 2

abbrev pub decreases-if_fault : goal.decreases-if_fault
decreases-if_fault l = 4 * max (size-Stmts l.then.now) (size-Stmts l.other.now) + 1

abbrev pub decreases-for_fault : goal.decreases-for_fault
decreases-for_fault l = 4 * size-Stmts l.body.now + 1
