use Rattle.std.proofs.Common.{◌≡◌, ◌++◌}
use Rattle.jac_write.specs.Writes.{only}
use Rattle.jac_write.proofs.public_values.tables_alone.Given as goal

abbrev pub decreases-models : goal.decreases-models
decreases-models l = l.left

abbrev pub invariant-models : goal.invariant-models
invariant-models l = l.tables.items ++ only l.left l.row ≡ only l.fn.model l.row
