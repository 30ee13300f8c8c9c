use Rattle.std.proofs.Common.{◌≡◌, ◌++◌, drop, string_bytes}
use Rattle.jac_lang.specs.Mirror.{groups_of}
use Rattle.jac_tree.specs.Printed.{printed_after}
use Rattle.jac_check.specs.Schema.{group_trees}
use Rattle.jac_check.proofs.schema.put_each_group.Given as goal

-- The text so far, followed by that of what is left, is the text of all.
abbrev pub invariant-groups : goal.invariant-groups
invariant-groups l =
    string_bytes l.to ++ printed_after (group_trees (groups_of (drop l.group-index l.groups)))
    ≡ string_bytes l.fn.to ++ printed_after (group_trees (groups_of l.groups))
