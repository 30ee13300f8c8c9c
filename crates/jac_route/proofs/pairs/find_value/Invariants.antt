use Rattle.std.proofs.Common.{◌≡◌, length}
use Rattle.jac_route.specs.Pairs.{value_of_name}
use Rattle.jac_route.proofs.pairs.find_value.Given as goal

abbrev pub invariant-pairs : goal.invariant-pairs
invariant-pairs l = value_of_name l.name l.rest ≡ value_of_name l.name l.pairs

abbrev pub decreases-pairs : goal.decreases-pairs
decreases-pairs l = length l.rest
