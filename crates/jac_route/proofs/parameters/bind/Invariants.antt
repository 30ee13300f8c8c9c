use Rattle.std.proofs.Common.{◌≡◌, ◌++◌, drop}
use Rattle.jac_lang.specs.Mirror.{application_of}
use Rattle.jac_route.specs.Parameters.{parameters}
use Rattle.jac_route.proofs.parameters.bind.Given as goal

abbrev pub invariant-fields : goal.invariant-fields
invariant-fields l =
    let models = (application_of l.app).models in
    let pairs = l.path ++ l.rest in
    l.bindings.items ++ parameters models (drop l.field-index l.fields) pairs ≡ parameters models l.fields pairs
