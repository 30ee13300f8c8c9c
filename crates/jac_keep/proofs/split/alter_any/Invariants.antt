use Rattle.std.proofs.Common.{◌≡◌, drop}
use Rattle.jac_keep.specs.Alterations.{altered_rows}
use Rattle.jac_keep.proofs.split.alter_any.Given as goal

abbrev pub invariant-changed : goal.invariant-changed
invariant-changed l = altered_rows l.model (drop l.alteration-index l.changed) l.left.items ≡ altered_rows l.model l.changed l.fn.rows.items
