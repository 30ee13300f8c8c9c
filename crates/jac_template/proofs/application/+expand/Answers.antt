use Rattle.std.proofs.Common.{arith}
use Rattle.jac_lang.specs.Mirror.{statement_of, statements_of}
use Rattle.jac_template.proofs.Bodies.{body_on}
use Rattle.jac_template.proofs.application.+expand.Goals as goal

pub expand_stmts-statements-preserved : goal.expand_stmts-statements-preserved
expand_stmts-statements-preserved t c =
    let parted = c.in-Some.parted in
    record {
      no_deeper = omega (arith, c.in-Some.ensures.smaller.1, c.statements.invariant.no_deeper);
      leads = body_on _ _ _ _ (statements_of parted.rest) (statement_of parted.first) (statement_of c.in_ok-one.one) c.in-Some.ensures.cases
          c.in_ok-back.ensures c.in_ok-one.ensures.statement c.statements.invariant.leads;
    }
