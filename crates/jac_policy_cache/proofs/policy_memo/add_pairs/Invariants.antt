use Rattle.std.proofs.Common.{◌≡◌, ◌||◌, ℕ, drop}
use Rattle.jac_world.specs.World.{shown_by, names}
use Rattle.jac_policy_cache.proofs.policy_memo.add_pairs.Given as goal

abbrev pub invariant-pairs : goal.invariant-pairs
invariant-pairs l = (k : ℕ) → (shown_by l.labels k || names (drop l.pair-index l.pairs) k) ≡ (shown_by l.fn.labels k || names l.pairs k)
