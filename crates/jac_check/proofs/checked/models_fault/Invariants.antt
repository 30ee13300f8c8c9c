use Rattle.std.proofs.Common.{◌≡◌, [], take, drop}
use Rattle.jac_lang.specs.Mirror.{application_of, entities_of}
use Rattle.jac_check.specs.Applications.{models_fault}
use Rattle.jac_check.proofs.checked.models_fault.Given as goal

abbrev pub invariant-loop-i : goal.invariant-loop-i
invariant-loop-i l =
    let app = application_of l.app in
    models_fault app (entities_of (take l.i l.models)) (entities_of (drop l.i l.models)) ≡ models_fault app [] (entities_of l.models)
