use Rattle.std.proofs.Common.{◌≡◌, ◌++◌, drop}
use Rattle.jac_policy_deps.specs.Marks.{row_labels}
use Rattle.jac_policy_deps.proofs.invalidation.push_labels.Given as goal

abbrev pub invariant-rows : goal.invariant-rows
invariant-rows l = l.labels.items ++ row_labels l.group (drop l.row-index l.rows) ≡ l.fn.labels.items ++ row_labels l.group l.rows
