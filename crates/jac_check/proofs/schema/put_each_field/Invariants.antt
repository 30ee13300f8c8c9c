use Rattle.std.proofs.Common.{◌≡◌, ◌++◌, drop, string_bytes}
use Rattle.jac_tree.specs.Printed.{printed_after}
use Rattle.jac_check.specs.Schema.{field_trees}
use Rattle.jac_check.proofs.schema.put_each_field.Given as goal

-- The text so far, followed by that of what is left, is the text of all.
abbrev pub invariant-fields : goal.invariant-fields
invariant-fields l =
    string_bytes l.to ++ printed_after (field_trees (drop l.field-index l.fields))
    ≡ string_bytes l.fn.to ++ printed_after (field_trees l.fields)
