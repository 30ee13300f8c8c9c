use Rattle.std.proofs.Common.{◌≡◌}
use Rattle.jac_tree.specs.Mirror.{plain_all}
use Rattle.jac_keep.specs.Schema.{each_of, kinds_of_model}
use Rattle.jac_keep.proofs.SchemaLaws.{made_before}
use Rattle.jac_keep.proofs.schema.kinds_of_each.Given as goal

-- The lists so far, followed by those of the rest, are the lists of all models.
abbrev pub invariant-models : goal.invariant-models
invariant-models l =
    made_before l.lists.items (each_of (kinds_of_model (plain_all l.models)) (plain_all l.left))
    ≡ each_of (kinds_of_model (plain_all l.models)) (plain_all l.models)
