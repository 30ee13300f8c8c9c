use Rattle.std.proofs.Common.{length}
use Rattle.jac_keep.specs.Alterations.{ArePlaced}
use Rattle.jac_sql_spec.specs.Stands.{AreNarrow}
use Rattle.jac_sqlkeep.proofs.records.are_placed.Given as goal

abbrev pub invariant-changed : goal.invariant-changed
invariant-changed l = AreNarrow l.rest × ArePlaced l.rest l.models → AreNarrow l.changed × ArePlaced l.changed l.models

abbrev pub decreases-changed : goal.decreases-changed
decreases-changed l = length l.rest
