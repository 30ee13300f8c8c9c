use Rattle.std.proofs.Common.{◌≡◌, ◌++◌, string_bytes}
use Rattle.jac_lang.specs.Mirror.{assigned_of}
use Rattle.jac_tree.specs.Printed.{printed_after}
use Rattle.jac_check.specs.Schema.{guard_trees}
use Rattle.jac_check.proofs.schema.put_guards.Given as goal

-- The text so far, followed by that of what is left, is the text of all.
abbrev pub invariant-guards : goal.invariant-guards
invariant-guards l =
    string_bytes l.to ++ printed_after (guard_trees (assigned_of l.left)) ≡ string_bytes l.fn.to ++ printed_after (guard_trees (assigned_of l.guards))
