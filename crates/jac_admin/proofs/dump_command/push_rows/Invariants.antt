use Rattle.std.proofs.Common.{◌≡◌, ◌++◌, drop}
use Rattle.jac_world.specs.World.{shown_by}
use Rattle.jac_lang.specs.Mirror.{entity_of}
use Rattle.jac_rows.specs.Project.{rows_at}
use Rattle.jac_admin.specs.Dump.{table_text}
use Rattle.jac_admin.proofs.dump_command.push_rows.Given as goal

-- The text so far, followed by that of the rows left, is the result.
abbrev pub invariant-rows : goal.invariant-rows
invariant-rows l =
    l.text.items ++ table_text (entity_of l.model) (rows_at (shown_by l.assignment) (drop l.row-index l.rows))
    ≡ l.fn.text.items ++ table_text (entity_of l.model) (rows_at (shown_by l.assignment) l.rows)
