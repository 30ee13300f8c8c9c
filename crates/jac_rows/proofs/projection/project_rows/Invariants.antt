use Rattle.std.proofs.Common.{◌≡◌, ◌++◌, drop}
use Rattle.jac_world.specs.World.{shown_by}
use Rattle.jac_rows.specs.Project.{rows_at}
use Rattle.jac_rows.proofs.projection.project_rows.Given as goal

abbrev pub invariant-rows : goal.invariant-rows
invariant-rows l = l.out.items ++ rows_at (shown_by l.assignment) (drop l.row-index l.rows) ≡ rows_at (shown_by l.assignment) l.rows
