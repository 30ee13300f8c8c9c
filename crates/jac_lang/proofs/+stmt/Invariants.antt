use Rattle.std.proofs.Common.{◌≤◌}
use Rattle.jac_lang.specs.declared.statements.Stmts.{size-Stmts}
use Rattle.jac_lang.proofs.+stmt.Given as goal

abbrev pub invariant-statements::Stmts::drop-body : goal.invariant-statements::Stmts::drop-body
invariant-statements::Stmts::drop-body l = size-Stmts l.self ≤ size-Stmts l.fn.self
