use Rattle.std.proofs.Common.{length}
use Rattle.jac_row_codec.specs.Reading.{CellsSoFar}
use Rattle.jac_row_codec.proofs.body.cells.Given as goal

abbrev pub invariant-kinds : goal.invariant-kinds
invariant-kinds l = CellsSoFar l.fn.kinds l.fn.body l.cells.items l.to_come l.rest

abbrev pub decreases-kinds : goal.decreases-kinds
decreases-kinds l = length l.to_come
