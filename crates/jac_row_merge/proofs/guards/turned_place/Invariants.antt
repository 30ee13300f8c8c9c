use Rattle.std.proofs.Common.{◌≡◌, ℕ, Bool, List, ◌++◌, length}
use Rattle.jac_row_merge.specs.Merged.{differ_once}
use Rattle.jac_row_merge.proofs.guards.turned_place.Given as goal

-- The pairs so far are the same in both.
abbrev pub invariant-pairs : goal.invariant-pairs
invariant-pairs l = record {
  parts : (front : List (ℕ × Bool)) × (length front ≡ l.place) × (front ++ l.left ≡ l.one) × (front ++ l.right ≡ l.other);
  differ : differ_once l.left l.right ≡ differ_once l.one l.other;
}

abbrev pub decreases-pairs : goal.decreases-pairs
decreases-pairs l = length l.left
