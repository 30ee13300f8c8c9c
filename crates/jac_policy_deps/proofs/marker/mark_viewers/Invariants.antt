use Rattle.std.proofs.Common.{◌≡◌, ◌++◌, drop}
use Rattle.jac_policy_deps.specs.Marks.{viewer_marks}
use Rattle.jac_policy_deps.proofs.marker.mark_viewers.Given as goal

abbrev pub invariant-over : goal.invariant-over
invariant-over l = l.marks.items ++ viewer_marks l.place.model l.place.group (drop l.alteration-index l.over) ≡ l.fn.marks.items ++ viewer_marks l.place.model l.place.group l.over
