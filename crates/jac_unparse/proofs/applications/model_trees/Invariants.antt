use Rattle.std.proofs.Common.{◌≡◌, drop}
use Rattle.jac_lang.specs.Mirror.{entities_of}
use Rattle.jac_tree.specs.Mirror.{plain_all}
use Rattle.jac_tree.specs.Plain.{onto}
use Rattle.jac_unparse.specs.TreeOf.{models_before}
use Rattle.jac_unparse.proofs.applications.model_trees.Given as goal

-- The trees so far in reverse order, followed by those of the rest, are all trees.
abbrev pub invariant-models : goal.invariant-models
invariant-models l = onto (plain_all l.back) (models_before (entities_of (drop l.model-index l.models)) (plain_all l.rest)) ≡ models_before (entities_of l.models) (plain_all l.rest)
