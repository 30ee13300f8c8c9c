use Rattle.std.proofs.Common.{◌≡◌, ◌++◌, drop}
use Rattle.jac_policy_deps.specs.Altered.{alternatives_altered}
use Rattle.jac_policy_deps.proofs.Gathering.{ReadSoFar}
use Rattle.jac_policy_deps.proofs.invalidation.add_altered.Given as goal

abbrev pub invariant-over : goal.invariant-over
invariant-over g l =
    let k = g.K.Keeper in
    ReadSoFar (k.seen l.fn.keeper) (k.seen l.keeper)
    (l.rows.items ++ alternatives_altered (k.seen l.fn.keeper).state.tables (drop l.alteration-index l.over) ≡ l.fn.rows.items ++ alternatives_altered (k.seen l.fn.keeper).state.tables l.over)
