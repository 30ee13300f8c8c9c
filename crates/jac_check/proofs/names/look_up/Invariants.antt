use Rattle.std.proofs.Common.{◌≡◌}
use Rattle.jac_lang.specs.Mirror.{application_of}
use Rattle.jac_check.specs.Scope.{meaning_of}
use Rattle.jac_check.specs.Mirror.{names_of}
use Rattle.jac_check.proofs.names.look_up.Given as goal

abbrev pub invariant-outwards : goal.invariant-outwards
invariant-outwards l =
    let models = (application_of l.app).models in
    meaning_of (names_of models l.left) l.name ≡ meaning_of (names_of models l.names) l.name
