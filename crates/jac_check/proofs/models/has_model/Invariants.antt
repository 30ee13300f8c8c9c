use Rattle.std.proofs.Common.{◌≡◌, drop}
use Rattle.jac_lang.specs.Mirror.{entities_of}
use Rattle.jac_check.specs.Scope.{has_model}
use Rattle.jac_check.proofs.models.has_model.Given as goal

abbrev pub invariant-loop-model : goal.invariant-loop-model
invariant-loop-model l = has_model l.name (entities_of (drop l.model-index l.models)) ≡ has_model l.name (entities_of l.models)
