use Rattle.std.proofs.Common.{◌≡◌, ◌++◌, take}
use Rattle.jac_keep.proofs.split.add_copies.Given as goal

abbrev pub invariant-new : goal.invariant-new
invariant-new l = l.rows.items ≡ l.fn.rows.items ++ take l.row-index l.new
