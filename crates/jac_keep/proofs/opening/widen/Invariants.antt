use Rattle.std.proofs.Common.{◌≡◌, ◌-◌, ◌≤◌, ◌++◌, length, vec_capacity}
use Rattle.jac_keep.specs.Schema.{empties}
use Rattle.jac_keep.proofs.opening.widen.Given as goal

abbrev pub invariant-models : goal.invariant-models
invariant-models l =
    (l.tables.items ++ empties (l.models - length l.tables.items) ≡ l.fn.tables.items ++ empties (l.models - length l.fn.tables.items))
    × (l.models ≤ vec_capacity l.tables)

abbrev pub decreases-models : goal.decreases-models
decreases-models l = l.models - length l.tables.items
