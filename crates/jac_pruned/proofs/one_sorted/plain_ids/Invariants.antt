use Rattle.std.proofs.Common.{◌≡◌, ◌++◌, map, drop}
use Rattle.jac_pruned.proofs.one_sorted.plain_ids.Given as goal

abbrev pub invariant-keyed : goal.invariant-keyed
invariant-keyed l = l.ids.items ++ map (λ p. p.0) (drop l.pair-index l.keyed) ≡ map (λ p. p.0) l.keyed
