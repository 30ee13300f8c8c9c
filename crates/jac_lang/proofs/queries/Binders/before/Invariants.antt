use Rattle.std.proofs.Common.{◌≡◌}
use Rattle.jac_lang.specs.Mirror.{binders_of}
use Rattle.jac_lang.specs.Turned.{turned_round}
use Rattle.jac_lang.proofs.queries.Binders.before.Given as goal

abbrev pub invariant-turn : goal.invariant-turn
invariant-turn l = turned_round (binders_of l.left) (binders_of l.out) ≡ turned_round (binders_of l.fn.self) (binders_of l.fn.others)
