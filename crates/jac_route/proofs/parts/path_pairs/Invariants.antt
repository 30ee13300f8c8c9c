use Rattle.std.proofs.Common.{◌≡◌, ◌++◌}
use Rattle.jac_value.specs.Parts.{parts_left, option_now, length_left}
use Rattle.jac_route.specs.PathPairs.{pairs_at, path_pairs}
use Rattle.jac_route.proofs.parts.path_pairs.Given as goal

-- The pairs so far, followed by those of the segments that are left, are the result.
abbrev pub invariant-segments : goal.invariant-segments
invariant-segments l = l.pairs.items ++ pairs_at (parts_left 47 (option_now l.segments)) (parts_left 47 (option_now l.parts)) ≡ path_pairs l.pattern l.path

abbrev pub decreases-segments : goal.decreases-segments
decreases-segments l = length_left (option_now l.segments)
