use Rattle.std.proofs.Common.{◌≡◌, map, take}
use Rattle.jac_world.specs.World.{shown_by}
use Rattle.jac_rows.specs.Project.{rows_at}
use Rattle.jac_rows.proofs.projection.project_tables.Given as goal

abbrev pub invariant-tables : goal.invariant-tables
invariant-tables l = l.out.items ≡ map (rows_at (shown_by l.assignment)) (take l.table-index l.tables)
