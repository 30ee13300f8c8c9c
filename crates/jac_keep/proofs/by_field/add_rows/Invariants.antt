use Rattle.std.proofs.Common.{◌≡◌, ◌||◌, ℕ, drop}
use Rattle.jac_value.specs.declared.value.Value.{Value}
use Rattle.jac_index.specs.Triples.{has_index_pair}
use Rattle.jac_keep.specs.MatchingRecords.{holds_cell}
use Rattle.jac_keep.proofs.by_field.add_rows.Given as goal

-- The pairs of the index and of the rows that are left are those of the result.
abbrev pub invariant-rows : goal.invariant-rows
invariant-rows l = (v : Value) (k : ℕ) → (holds_cell l.field v (drop l.row-index l.rows) k || has_index_pair l.values v k) ≡ (holds_cell l.field v l.rows k || has_index_pair l.initial.values v k)
