use Rattle.std.proofs.Common.{◌≡◌, ◌++◌, drop}
use Rattle.jac_world.specs.World.{shown_by}
use Rattle.jac_keep.specs.Records.{with_id}
use Rattle.jac_keep.proofs.scan.copies_of.Given as goal

abbrev pub invariant-rows : goal.invariant-rows
invariant-rows l = l.found.items ++ with_id (shown_by l.ids) (drop l.row-index l.rows) ≡ with_id (shown_by l.ids) l.rows
