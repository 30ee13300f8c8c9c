use Rattle.std.proofs.Common.{◌≡◌}
use Rattle.jac_lang.specs.Mirror.{application_of, binders_of}
use Rattle.jac_check.specs.NameFaults.{sorted_fault}
use Rattle.jac_check.proofs.queries.sorted_fault.Given as goal

abbrev pub invariant-binders : goal.invariant-binders
invariant-binders l =
    let models = (application_of l.app).models in
    sorted_fault models (binders_of l.left) l.name l.field ≡ sorted_fault models (binders_of l.binders) l.name l.field
