use Rattle.std.proofs.Common.{◌≡◌, ◌++◌, drop}
use Rattle.jac_query.specs.Sorted.{tuples_of}
use Rattle.jac_query.proofs.sorts.without_keys.Given as goal

abbrev pub invariant-keyed : goal.invariant-keyed
invariant-keyed l = l.out.items ++ tuples_of (drop l.item-index l.keyed) ≡ tuples_of l.keyed
