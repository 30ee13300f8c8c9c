use Rattle.std.proofs.Common.{◌≡◌, [], take, drop}
use Rattle.jac_lang.specs.Mirror.{application_of}
use Rattle.jac_check.specs.Applications.{fields_fault}
use Rattle.jac_check.proofs.models.fields_fault.Given as goal

abbrev pub invariant-loop-i : goal.invariant-loop-i
invariant-loop-i l =
    let models = (application_of l.app).models in
    fields_fault models (take l.i l.fields) (drop l.i l.fields) ≡ fields_fault models [] l.fields
