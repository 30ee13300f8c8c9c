use Rattle.std.proofs.Common.{◌≡◌, ℕ, Bool, length}
use Rattle.jac_facet.specs.Shape.{at}
use Rattle.jac_rows.specs.Project.{rows_at}
use Rattle.jac_query.specs.Field.{field_from, field_of}
use Rattle.jac_query.proofs.field.read_field.Given as goal

abbrev pub invariant-rows : goal.invariant-rows
invariant-rows g l = (w : ℕ → Bool) → field_from l.field l.absent (at w l.found) (rows_at w l.rest) ≡ field_of l.field l.absent (rows_at w l.rows)

abbrev pub decreases-rows : goal.decreases-rows
decreases-rows g l = length l.rest
