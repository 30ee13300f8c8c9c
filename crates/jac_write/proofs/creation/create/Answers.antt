use Rattle.std.proofs.Common.{refl}
use Rattle.jac_value.specs.Ids.{model_of_id}
use Rattle.jac_expr.specs.Tupled.{all_at}
use Rattle.jac_keep.specs.WorkState.{state_of}
use Rattle.jac_lang.specs.Mirror.{application_of}
use Rattle.jac_plain.specs.Records.{plain_row}
use Rattle.jac_plain.specs.Statements.{is_kept}
use Rattle.jac_write.specs.Writes.{made_cells}
use Rattle.jac_write.proofs.HidingLaws.{made_where_kept, made_nowhere}
use Rattle.jac_write.proofs.MergedLaws.{kept}
use Rattle.jac_write.proofs.creation.create.Goals as goal

pub returns-in_ok-make_under-in-Some-clause-left : goal.returns-in_ok-make_under-in-Some-clause-left
returns-in_ok-make_under-in-Some-clause-left g c told =
    let models = (application_of c.args.app.now).models in
    let id = c.args.id in
    made_where_kept id (model_of_id id) (λ w. is_kept models w (model_of_id id) id)
    (λ w. plain_row id (made_cells models w (model_of_id id) id (all_at w c.args.cells.now))) c.args.pc.now c.in-Some.guard
    (state_of g.K.Keeper.seen c.args.work.now) (state_of g.K.Keeper.seen c.make_under.new.work)
    (rw c.in-Some.is at c.in_ok-guard.ensures) (c.in_ok-make_under-in-Some.ensures.left told)

pub returns-in-None-clause-left : goal.returns-in-None-clause-left
returns-in-None-clause-left g c told =
    let models = (application_of c.args.app.now).models in
    let id = c.args.id in
    made_nowhere id (model_of_id id) (λ w. is_kept models w (model_of_id id) id)
    (λ w. plain_row id (made_cells models w (model_of_id id) id (all_at w c.args.cells.now))) c.args.pc.now
    (state_of g.K.Keeper.seen c.args.work.now) (rw c.in-None.is at c.in_ok-guard.ensures)

pub returns-in-None-clause-merged : goal.returns-in-None-clause-merged
returns-in-None-clause-merged g c told = kept (state_of g.K.Keeper.seen c.args.work.now) (state_of g.K.Keeper.seen c.args.work.now) refl
