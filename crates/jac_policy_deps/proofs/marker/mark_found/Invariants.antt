use Rattle.std.proofs.Common.{◌≡◌, ◌++◌, drop}
use Rattle.jac_policy_deps.specs.Marks.{found_marks}
use Rattle.jac_policy_deps.proofs.marker.mark_found.Given as goal

abbrev pub invariant-rows : goal.invariant-rows
invariant-rows l = l.marks.items ++ found_marks l.place.model l.place.group l.referent l.model l.field (drop l.row-index l.rows) ≡ l.fn.marks.items ++ found_marks l.place.model l.place.group l.referent l.model l.field l.rows
