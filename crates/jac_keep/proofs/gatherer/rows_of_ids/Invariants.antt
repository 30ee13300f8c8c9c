use Rattle.std.proofs.Common.{◌≡◌, ◌++◌, drop}
use Rattle.jac_keep.proofs.Gathered.{gathered}
use Rattle.jac_keep.proofs.gatherer.rows_of_ids.Given as goal

abbrev pub invariant-ids : goal.invariant-ids
invariant-ids l = l.found.items ++ gathered (drop l.id-index l.ids) l.rows ≡ gathered l.ids l.rows
