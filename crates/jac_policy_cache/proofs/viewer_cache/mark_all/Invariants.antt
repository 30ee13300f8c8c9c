use Rattle.std.proofs.Common.{◌≡◌, ◌||◌, ℕ, drop}
use Rattle.jac_world.specs.World.{shown_by}
use Rattle.jac_policy_cache.specs.ViewerCache.{is_marked}
use Rattle.jac_policy_cache.proofs.viewer_cache.mark_all.Given as goal

abbrev pub invariant-labels : goal.invariant-labels
invariant-labels l = (k : ℕ) → (shown_by l.stale k || is_marked l.answers (drop l.label-index l.labels) k) ≡ (shown_by l.fn.stale k || is_marked l.answers l.labels k)
