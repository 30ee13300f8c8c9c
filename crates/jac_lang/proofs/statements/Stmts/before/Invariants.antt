use Rattle.std.proofs.Common.{◌≡◌}
use Rattle.jac_lang.specs.Mirror.{statements_of}
use Rattle.jac_lang.specs.Turned.{body_onto}
use Rattle.jac_lang.proofs.statements.Stmts.before.Given as goal

abbrev pub invariant-turn : goal.invariant-turn
invariant-turn l = body_onto (statements_of l.left) (statements_of l.out) ≡ body_onto (statements_of l.fn.self) (statements_of l.fn.others)
