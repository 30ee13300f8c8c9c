use Rattle.std.proofs.Common.{None, length}
use Rattle.jac_sql_spec.specs.Testing.{AreAbove}
use Rattle.jac_sqlkeep.proofs.stored.are_rising.Given as goal

abbrev pub invariant-rowids : goal.invariant-rowids
invariant-rowids l = AreAbove l.last l.rest → AreAbove None l.fn.rowids

abbrev pub decreases-rowids : goal.decreases-rowids
decreases-rowids l = length l.rest
