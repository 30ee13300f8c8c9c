use Rattle.std.proofs.Common.{◌≡◌, ◌≤◌, ◌+◌, ◌++◌, length}
use Rattle.jac_lang.specs.Mirror.{application_of, entities_of}
use Rattle.jac_policy_deps.specs.Marks.{models_marks}
use Rattle.jac_policy_deps.proofs.marker.mark_models.Given as goal

abbrev pub invariant-models : goal.invariant-models
invariant-models l =
    (l.marks.items ++ models_marks (application_of l.app).models l.place l.over l.rows (entities_of l.left)
    ≡ l.fn.marks.items ++ models_marks (application_of l.app).models 0 l.over l.rows (application_of l.app).models)
    × (l.place + length l.left ≤ 64)

abbrev pub decreases-models : goal.decreases-models
decreases-models l = length l.left
