use Rattle.std.proofs.Common.{◌≡◌, ◌||◌, ℕ, length}
use Rattle.jac_world.specs.World.{shown_by}
use Rattle.jac_cli.proofs.words.labels.Labels.assignment.Given as goal

-- A label is shown if it is shown so far or is among those left.
abbrev pub invariant-labels : goal.invariant-labels
invariant-labels l = (k : ℕ) → (shown_by l.assignment k || shown_by l.left k) ≡ shown_by l.self k

abbrev pub decreases-labels : goal.decreases-labels
decreases-labels l = length l.left
