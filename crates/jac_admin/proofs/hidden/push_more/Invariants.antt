use Rattle.std.proofs.Common.{◌≡◌, ◌++◌, drop}
use Rattle.jac_replies.specs.Spelled.{more_labels}
use Rattle.jac_admin.proofs.hidden.push_more.Given as goal

-- The text so far, followed by that of the labels left, is the result.
abbrev pub invariant-labels : goal.invariant-labels
invariant-labels l = l.text.items ++ more_labels (drop l.label-index l.labels) ≡ l.fn.text.items ++ more_labels l.labels
