use Rattle.std.proofs.Common.{◌≡◌, ℕ, ◌||◌, drop}
use Rattle.jac_world.specs.World.{shown_by}
use Rattle.jac_keep.specs.MatchingRecords.{holds_cell}
use Rattle.jac_keep.proofs.scan.holding.Given as goal

-- Each record that has the value was found, or has it in a row that is left.
abbrev pub invariant-rows : goal.invariant-rows
invariant-rows l = (k : ℕ) → (shown_by l.ids k || holds_cell l.field l.value (drop l.row-index l.rows) k) ≡ holds_cell l.field l.value l.rows k
