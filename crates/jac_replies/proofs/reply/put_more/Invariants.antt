use Rattle.std.proofs.Common.{◌≡◌, ◌++◌, drop}
use Rattle.std.specs.String.{string_bytes}
use Rattle.jac_replies.specs.Spelled.{more_labels}
use Rattle.jac_replies.proofs.reply.put_more.Given as goal

-- What was added so far, followed by what is added for the rest of the labels, is what is added for
-- all.
abbrev pub invariant-labels : goal.invariant-labels
invariant-labels l = string_bytes l.to ++ more_labels (drop l.label-index l.labels) ≡ string_bytes l.fn.to ++ more_labels l.labels
