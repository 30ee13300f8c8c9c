use Rattle.std.proofs.Common.{◌≡◌, ◌==◌, ◌||◌, ◌&&◌, ℕ, drop}
use Rattle.jac_world.specs.World.{names}
use Rattle.std.specs.Ordering.{nat_cmp}
use Rattle.std.specs.BTreeMap.{get}
use Rattle.jac_policy_cache.specs.Memo.{watched_in}
use Rattle.jac_policy_cache.proofs.policy_memo.watch_all.Given as goal

abbrev pub invariant-pairs : goal.invariant-pairs
invariant-pairs l = (k j : ℕ) →
    ((names (drop l.pair-index l.pairs) k && l.label == j) || watched_in (get nat_cmp l.watchers k) j) ≡ ((names l.pairs k && l.label == j) || watched_in (get nat_cmp l.fn.watchers k) j)
