use Rattle.std.proofs.Common.{length}
use Rattle.jac_lang.specs.Mirror.{application_of}
use Rattle.jac_upgrade.proofs.Walking.{Walked}
use Rattle.jac_upgrade.proofs.collection.add_rows.Given as goal

abbrev pub invariant-records : goal.invariant-records
invariant-records g l =
    Walked (application_of l.old).models (application_of l.new).models l.model l.rows l.left l.fn.made.items l.made.items

abbrev pub decreases-records : goal.decreases-records
decreases-records g l = length l.left
