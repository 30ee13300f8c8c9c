use Rattle.std.proofs.Common.{◌≡◌, ◌&&◌, not, ℕ, drop}
use Rattle.jac_world.specs.World.{shown_by}
use Rattle.jac_resolve.proofs.settled_cache.remove_all.Given as goal

abbrev pub invariant-labels : goal.invariant-labels
invariant-labels l = (k : ℕ) → (not (shown_by (drop l.label-index l.labels) k) && shown_by l.a k) ≡ (not (shown_by l.labels k) && shown_by l.fn.a k)
