use Rattle.std.proofs.Common.{◌≡◌, ℕ, Bool, false, drop}
use Rattle.jac_value.specs.declared.value.Value.TheVariants as value
use Rattle.jac_facet.specs.Shape.{at}
use Rattle.jac_rows.specs.Project.{rows_at}
use Rattle.jac_expr.specs.Leafed.{stood_by}
use Rattle.jac_expr.proofs.reading.any_row.Given as goal

abbrev pub invariant-rows : goal.invariant-rows
invariant-rows g l = (w : ℕ → Bool) → stood_by (at w l.found) (rows_at w (drop l.row-index l.rows)) ≡ stood_by (value.Bool false) (rows_at w l.rows)
