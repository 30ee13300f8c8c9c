use Rattle.std.proofs.Common.{◌≡◌, ℕ, ◌||◌, drop}
use Rattle.jac_world.specs.World.{shown_by}
use Rattle.jac_lazy.proofs.consulted.assignment_of.Given as goal

-- Each label was added, or is left.
abbrev pub invariant-labels : goal.invariant-labels
invariant-labels l = (k : ℕ) → (shown_by l.a k || shown_by (drop l.label-index l.consulted) k) ≡ shown_by l.consulted k
