use Rattle.std.proofs.Common.{◌≡◌, refl, rules, ℕ, Bool, false, List, map}
use Rattle.jac_value.specs.Ids.{is_id_of}
use Rattle.jac_value.specs.declared.value.Value.{Value}
use Rattle.jac_keep.specs.WorkState.{state_of}
use Rattle.jac_lang.specs.Mirror.{application_of}
use Rattle.jac_plain.specs.Records.{changed_rows}
use Rattle.jac_write.specs.Writes.{remade_cells, sets_at}
use Rattle.jac_write.proofs.MergedLaws.{kept}
use Rattle.jac_write.proofs.RecordLaws.{absent, step_changed}
use Rattle.jac_write.proofs.WriteLaws.{no_record}
use Rattle.jac_write.proofs.change.update_record.Goals as goal

pub returns-then-not-is_id-clause-left : goal.returns-then-not-is_id-clause-left
returns-then-not-is_id-clause-left g c told n sound =
    let id = c.args.id in
    let state = state_of g.K.Keeper.seen c.args.work.now in
    let remake : (ℕ → Bool) → List Value → List Value = λ w. remade_cells (application_of c.args.app.now).models w c.args.model id (sets_at w c.args.sets.now) in
    let no : is_id_of id c.args.model ≡ false = search rules in
    absent n id c.args.model state c.args.guard.now (λ w. map (remake w)) (λ w. changed_rows id (remake w)) sound (no_record n c.args.model id state sound no)
    (λ w. refl) (λ w. step_changed id (remake w))

pub returns-then-not-is_id-clause-merged : goal.returns-then-not-is_id-clause-merged
returns-then-not-is_id-clause-merged g c told = kept (state_of g.K.Keeper.seen c.args.work.now) (state_of g.K.Keeper.seen c.args.work.now) refl
