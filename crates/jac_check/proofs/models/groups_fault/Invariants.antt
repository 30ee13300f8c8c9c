use Rattle.std.proofs.Common.{◌≡◌, [], take, drop}
use Rattle.jac_lang.specs.Mirror.{application_of, entity_of, groups_of}
use Rattle.jac_check.specs.Applications.{groups_fault}
use Rattle.jac_check.proofs.models.groups_fault.Given as goal

abbrev pub invariant-loop-i : goal.invariant-loop-i
invariant-loop-i l =
    let app = application_of l.app in
    let m = entity_of l.model in
    groups_fault app m (groups_of (take l.i l.groups)) (groups_of (drop l.i l.groups)) ≡ groups_fault app m [] (groups_of l.groups)
