use Rattle.std.proofs.Common.{refl, arith, []}
use Rattle.jac_keep.specs.WorkState.{state_of}
use Rattle.jac_plain.specs.Records.{without}
use Rattle.jac_write.proofs.MergedLaws.{kept}
use Rattle.jac_write.proofs.RecordLaws.{absent, no_other, step_without}
use Rattle.jac_write.proofs.deletion.delete_record.Goals as goal

pub returns-then-id_model-model-clause-left : goal.returns-then-id_model-model-clause-left
returns-then-id_model-model-clause-left g c told n sound =
    let state = state_of g.K.Keeper.seen c.args.work.now in
    absent n c.args.id c.args.model state c.args.guard.now (λ w cs. []) (λ w. without c.args.id) sound
    (no_other n c.args.model c.args.id state sound (λ same. grind (arith, c.if-id_model-model.true, c.id_model.ensures, same))) (λ w. refl) (λ w. step_without c.args.id)

pub returns-then-id_model-model-clause-merged : goal.returns-then-id_model-model-clause-merged
returns-then-id_model-model-clause-merged g c told = kept (state_of g.K.Keeper.seen c.args.work.now) (state_of g.K.Keeper.seen c.args.work.now) refl
