use Rattle.std.proofs.lemmas.List.Filters.{dedup_is}
use Rattle.jac_policy_cache.proofs.Rising.{ascending_if_sorted, same_if_sorted}
use Rattle.jac_policy_cache.proofs.labels.sorted.Goals as goal

pub returns-clause-ascending : goal.returns-clause-ascending
returns-clause-ascending c =
    ascending_if_sorted c.sort_unstable.new.self.items c.dedup.new.self.items c.sort_unstable.ensures.sorted (dedup_is _ _ _ c.dedup.ensures.filtered)

pub returns-clause-same : goal.returns-clause-same
returns-clause-same c =
    same_if_sorted c.args.labels.items c.sort_unstable.new.self.items c.dedup.new.self.items c.sort_unstable.ensures.permutation (dedup_is _ _ _ c.dedup.ensures.filtered)
