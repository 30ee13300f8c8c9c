use Rattle.std.proofs.Common.{take}
use Rattle.jac_rows.specs.Tables.{rows_of}
use Rattle.jac_keep.specs.Indexed.{AreAltered}
use Rattle.jac_keep.proofs.together.alter_indexes.Given as goal

abbrev pub invariant-changed : goal.invariant-changed
invariant-changed l = AreAltered (rows_of l.tables) (take l.alteration-index l.items) l.initial.indexes l.indexes
