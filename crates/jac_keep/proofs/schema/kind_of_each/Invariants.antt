use Rattle.std.proofs.Common.{◌≡◌}
use Rattle.jac_tree.specs.Mirror.{plain_all}
use Rattle.jac_keep.specs.Schema.{each_of, kind_of_field}
use Rattle.jac_keep.proofs.SchemaLaws.{made_before}
use Rattle.jac_keep.proofs.schema.kind_of_each.Given as goal

-- The kinds so far, followed by those of the rest, are the kinds of all fields.
abbrev pub invariant-fields : goal.invariant-fields
invariant-fields l =
    made_before l.kinds.items (each_of (kind_of_field (plain_all l.models)) (plain_all l.left))
    ≡ each_of (kind_of_field (plain_all l.models)) (plain_all l.fields)
