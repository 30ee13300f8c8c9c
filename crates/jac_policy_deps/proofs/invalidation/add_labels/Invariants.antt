use Rattle.std.proofs.Common.{◌≡◌, ◌++◌, drop}
use Rattle.jac_policy_deps.specs.Marks.{marked_labels}
use Rattle.jac_policy_deps.proofs.Gathering.{ReadSoFar}
use Rattle.jac_policy_deps.proofs.invalidation.add_labels.Given as goal

abbrev pub invariant-marks : goal.invariant-marks
invariant-marks g l =
    let k = g.K.Keeper in
    ReadSoFar (k.seen l.fn.keeper) (k.seen l.keeper)
    (l.labels.items ++ marked_labels (k.seen l.fn.keeper).state.tables (drop l.mark-index l.marks) ≡ l.fn.labels.items ++ marked_labels (k.seen l.fn.keeper).state.tables l.marks)
