use Rattle.std.proofs.Common.{◌≡◌, nat_le}
use Rattle.jac_tree.specs.Mirror.{plain_all}
use Rattle.jac_tree.proofs.heads.is_up_to.Given as goal
use Rattle.jac_tree.specs.Plain.{count}

-- The trees that are left fit into the room that is left exactly if all trees fit.
abbrev pub invariant-trees : goal.invariant-trees
invariant-trees l = nat_le (count (plain_all l.left)) l.room ≡ nat_le (count (plain_all l.trees)) l.most
