use Rattle.std.proofs.Common.{◌≡◌}
use Rattle.jac_tree.specs.Mirror.{plain_all}
use Rattle.jac_tree.specs.Plain.{onto}
use Rattle.jac_tree.proofs.tree.Trees.before.Given as goal

abbrev pub invariant-turn : goal.invariant-turn
invariant-turn l = onto (plain_all l.left) (plain_all l.out) ≡ onto (plain_all l.fn.self) (plain_all l.fn.over)
