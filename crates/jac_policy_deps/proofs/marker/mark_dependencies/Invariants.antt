use Rattle.std.proofs.Common.{◌≡◌, ◌++◌, length}
use Rattle.jac_policy_deps.specs.Marks.{each_dependency_marks}
use Rattle.jac_policy_deps.proofs.marker.mark_dependencies.Given as goal

abbrev pub invariant-dependencies : goal.invariant-dependencies
invariant-dependencies l =
    l.marks.items ++ each_dependency_marks l.place.model l.place.group l.over l.rows l.left
    ≡ l.fn.marks.items ++ each_dependency_marks l.place.model l.place.group l.over l.rows l.dependencies

abbrev pub decreases-dependencies : goal.decreases-dependencies
decreases-dependencies l = length l.left
