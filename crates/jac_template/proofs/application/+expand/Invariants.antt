use Rattle.std.proofs.Common.{◌≤◌}
use Rattle.jac_lang.specs.Mirror.{statements_of}
use Rattle.jac_lang.specs.declared.statements.Stmts.{size-Stmts}
use Rattle.jac_template.proofs.Bodies.{BodyLeads}
use Rattle.jac_template.proofs.application.+expand.Given as goal

abbrev pub invariant-expand_stmts-statements : goal.invariant-expand_stmts-statements
invariant-expand_stmts-statements l = record {
  no_deeper : size-Stmts l.left ≤ size-Stmts l.fn.stmts;
  leads : BodyLeads (statements_of l.fn.stmts) (statements_of l.back) (statements_of l.left);
}
