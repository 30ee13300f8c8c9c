use Rattle.std.proofs.Common.{◌≡◌, ◌++◌, drop}
use Rattle.jac_policy_deps.specs.Marks.{linked_marks}
use Rattle.jac_policy_deps.proofs.marker.mark_linked.Given as goal

abbrev pub invariant-over : goal.invariant-over
invariant-over l = l.marks.items ++ linked_marks l.place.model l.place.group l.model l.field (drop l.alteration-index l.over) ≡ l.fn.marks.items ++ linked_marks l.place.model l.place.group l.model l.field l.over
