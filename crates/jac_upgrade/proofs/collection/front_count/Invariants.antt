use Rattle.std.proofs.Common.{◌≡◌, ◌+◌, length}
use Rattle.jac_upgrade.specs.Steps.{front_count}
use Rattle.jac_upgrade.proofs.collection.front_count.Given as goal

abbrev pub invariant-rows : goal.invariant-rows
invariant-rows l = (l.count + length l.left ≡ length l.rows) × (l.count + front_count l.id l.left ≡ front_count l.id l.rows)

abbrev pub decreases-rows : goal.decreases-rows
decreases-rows l = length l.left
