use Rattle.std.proofs.Common.{◌≡◌, ◌++◌}
use Rattle.jac_resolve.proofs.live.add_labels.Given as goal
use Rattle.jac_value.specs.Ids.{labels_below}

abbrev pub invariant-groups : goal.invariant-groups
invariant-groups l = l.labels.items ≡ l.fn.labels.items ++ labels_below l.id l.group
