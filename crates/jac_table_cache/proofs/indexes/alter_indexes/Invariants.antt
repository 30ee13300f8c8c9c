use Rattle.std.proofs.Common.{take}
use Rattle.jac_keep.specs.Indexed.{AreAltered}
use Rattle.jac_table_cache.specs.Held.{rows_held}
use Rattle.jac_table_cache.proofs.indexes.alter_indexes.Given as goal

abbrev pub invariant-changed : goal.invariant-changed
invariant-changed l = AreAltered (λ m. rows_held m l.tables) (take l.alteration-index l.items) l.initial.indexes l.indexes
