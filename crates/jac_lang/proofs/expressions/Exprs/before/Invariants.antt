use Rattle.std.proofs.Common.{◌≡◌}
use Rattle.jac_lang.specs.Mirror.{expressions_of}
use Rattle.jac_lang.specs.Turned.{turned_onto}
use Rattle.jac_lang.proofs.expressions.Exprs.before.Given as goal

abbrev pub invariant-turn : goal.invariant-turn
invariant-turn l = turned_onto (expressions_of l.left) (expressions_of l.out) ≡ turned_onto (expressions_of l.fn.self) (expressions_of l.fn.others)
