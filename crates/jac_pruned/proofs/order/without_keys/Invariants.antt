use Rattle.std.proofs.Common.{◌≡◌, ◌++◌, map}
use Rattle.std.specs.Vec.Iter.{into_iter_items}
use Rattle.jac_pruned.proofs.order.without_keys.Given as goal

abbrev pub invariant-keyed : goal.invariant-keyed
invariant-keyed l = l.tuples.items ++ map (λ p. p.0) (into_iter_items l.ids-iterator) ≡ map (λ p. p.0) l.fn.keyed.items
