use Rattle.std.proofs.Common.{refl, []}
use Rattle.jac_lang.specs.Mirror.{application_of, entity_of, field_group_of, groups_of}
use Rattle.jac_check.specs.Applications.{group_fault, groups_fault}
use Rattle.jac_check.proofs.Walked.{walked-more}
use Rattle.jac_check.proofs.models.groups_fault.Goals as goal

pub loop-i-preserved : goal.loop-i-preserved
loop-i-preserved c =
    let app = application_of c.args.app.now in
    let m = entity_of c.args.model.now in
    walked-more field_group_of groups_of refl (λ _ _. refl) (group_fault app m) (groups_fault app m) (λ _ _ _. refl) c.args.groups.now
    c.index-groups-i.result c.loop-i.i (groups_fault app m [] (groups_of c.args.groups.now)) c.index-groups-i.is c.loop-i-test.true c.in-Ok.ensures c.loop-i.invariant
