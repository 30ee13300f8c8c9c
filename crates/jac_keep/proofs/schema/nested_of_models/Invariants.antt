use Rattle.std.proofs.Common.{◌≡◌, ◌++◌}
use Rattle.jac_tree.specs.Mirror.{plain_all}
use Rattle.jac_keep.specs.Schema.{nested_of_models}
use Rattle.jac_keep.proofs.schema.nested_of_models.Given as goal

-- The flags so far, followed by those of the rest, are the flags of all models.
abbrev pub invariant-models : goal.invariant-models
invariant-models l = l.flags.items ++ nested_of_models (plain_all l.left) ≡ nested_of_models (plain_all l.models)
