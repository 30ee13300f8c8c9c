use Rattle.std.proofs.Common.{◌≡◌, ◌∙◌, ap, ℕ, Bool, List, [], ◌∷◌, ◌++◌, if◌then◌else◌}
use Rattle.jac_value.specs.Ids.{model_of_id}
use Rattle.jac_value.specs.declared.value.Value.{Value}
use Rattle.jac_expr.specs.Tupled.{all_at}
use Rattle.jac_keep.specs.WorkState.{state_of}
use Rattle.jac_lang.specs.Mirror.{application_of}
use Rattle.jac_world.specs.World.{holds}
use Rattle.jac_write.specs.Writes.{cells_at, made_cells}
use Rattle.jac_write.proofs.MergedLaws.{put_merged}
use Rattle.jac_write.proofs.WriteLaws.{created}
use Rattle.jac_write.proofs.creation.make_under.Goals as goal

pub returns-clause-left : goal.returns-clause-left
returns-clause-left g c told n numbered fresh sound =
    let read = c.in_ok-replace.ensures.back told in
    let models = (application_of c.args.app.now).models in
    let id = c.args.id in
    let cells = c.args.cells.now in
    let made : (ℕ → Bool) → List Value = λ w. made_cells models w (model_of_id id) id (all_at w cells) in
    let standing = c.into_vec-standing.result.items in
    let shows : (w : ℕ → Bool) → cells_at w c.in_ok-rows.rows.items ≡ cells_at w standing ++ (if holds w c.args.guard.now then made w ∷ [] else []) = λ w.
    c.in_ok-rows.ensures.shown w
    ∙ ap (λ m. cells_at w standing ++ (if holds w c.args.guard.now then made_cells models w m id (all_at w c.as_slice-cells.result.now) ∷ [] else [])) c.id_model-model.ensures
    ∙ ap (λ cs. cells_at w standing ++ (if holds w c.args.guard.now then made_cells models w (model_of_id id) id (all_at w cs) ∷ [] else [])) c.as_slice-cells.ensures in
    created c.sound_after_change.ensures n id (model_of_id id) (state_of g.K.Keeper.seen c.args.work.now) (state_of g.K.Keeper.seen c.one.new.self)
    (state_of g.K.Keeper.seen c.replace.new.self) c.args.guard.now c.in_ok-standing.standing standing c.in_ok-rows.rows.items c.in_ok-merged.merged made
    numbered c.requires.id fresh sound (c.in_ok-standing.ensures.exact read) c.into_vec-standing.ensures (c.in_ok-merged.ensures.own id c.in_ok-rows.ensures.own) shows c.in_ok-merged.ensures.shown
    (c.in_ok-standing.ensures.reads.same.same_state read) c.in_ok-replace.ensures.exact

pub replace-requires-clause-own : goal.replace-requires-clause-own
replace-requires-clause-own g c = c.in_ok-merged.ensures.own c.args.id c.in_ok-rows.ensures.own

pub returns-clause-merged : goal.returns-clause-merged
returns-clause-merged g c told =
    let read = c.in_ok-replace.ensures.back told in
    put_merged c.args.id (state_of g.K.Keeper.seen c.args.work.now) (state_of g.K.Keeper.seen c.one.new.self) (state_of g.K.Keeper.seen c.replace.new.self)
    c.in_ok-merged.merged (c.in_ok-merged.ensures.own c.args.id c.in_ok-rows.ensures.own) c.in_ok-merged.ensures.merged
    (c.in_ok-standing.ensures.reads.same.same_state read) c.in_ok-replace.ensures.exact
