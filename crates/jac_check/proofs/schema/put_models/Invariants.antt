use Rattle.std.proofs.Common.{◌≡◌, ◌++◌, drop, string_bytes}
use Rattle.jac_lang.specs.Mirror.{entities_of}
use Rattle.jac_tree.specs.Printed.{printed_after}
use Rattle.jac_check.specs.Schema.{model_trees}
use Rattle.jac_check.proofs.schema.put_models.Given as goal

-- The text so far, followed by that of what is left, is the text of all.
abbrev pub invariant-models : goal.invariant-models
invariant-models l =
    string_bytes l.to ++ printed_after (model_trees (entities_of (drop l.model-index l.models)))
    ≡ string_bytes l.fn.to ++ printed_after (model_trees (entities_of l.models))
