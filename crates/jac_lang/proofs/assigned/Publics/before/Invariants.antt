use Rattle.std.proofs.Common.{◌≡◌}
use Rattle.jac_lang.specs.Mirror.{assigned_of}
use Rattle.jac_lang.specs.Turned.{turned_round}
use Rattle.jac_lang.proofs.assigned.Publics.before.Given as goal

abbrev pub invariant-turn : goal.invariant-turn
invariant-turn l = turned_round (assigned_of l.left) (assigned_of l.out) ≡ turned_round (assigned_of l.fn.self) (assigned_of l.fn.others)
