use Rattle.std.proofs.Common.{◌≡◌, ◌++◌, length}
use Rattle.std.specs.List.{AllByRecursion}
use Rattle.jac_row_codec.specs.Spelling.{cells_bytes, IsCell, IsNarrow}
use Rattle.jac_row_codec.proofs.encode.encode_cells.Given as goal

abbrev pub invariant-cells : goal.invariant-cells
invariant-cells l = (l.bytes.items ++ cells_bytes l.rest ≡ cells_bytes l.fn.cells) × (AllByRecursion IsCell l.rest → AllByRecursion IsCell l.fn.cells) × (AllByRecursion IsNarrow l.rest → AllByRecursion IsNarrow l.fn.cells)

abbrev pub decreases-cells : goal.decreases-cells
decreases-cells l = length l.rest
