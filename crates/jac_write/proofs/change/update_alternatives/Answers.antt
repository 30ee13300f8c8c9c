use Rattle.std.proofs.Common.{◌≡◌, ◌∙◌, ap, refl, arith, ℕ, Bool, List, map}
use Rattle.std.proofs.lemmas.Bool.Decides.{nat_tests}
use Rattle.jac_value.specs.Ids.{model_of_id}
use Rattle.jac_value.specs.declared.value.Value.{Value}
use Rattle.jac_keep.specs.Records.{alternatives}
use Rattle.jac_keep.specs.WorkState.{state_of}
use Rattle.jac_lang.specs.Mirror.{application_of}
use Rattle.jac_plain.specs.Records.{changed_rows}
use Rattle.jac_rows.specs.Tables.{rows_of}
use Rattle.jac_write.specs.Writes.{remade_cells, sets_at}
use Rattle.jac_write.proofs.MergedLaws.{kept, put_merged}
use Rattle.jac_write.proofs.RecordLaws.{absent_by, replaced_by, step_changed}
use Rattle.jac_write.proofs.WriteLaws.{few_mapped}
use Rattle.jac_write.proofs.change.update_alternatives.Goals as goal

pub returns-then-is_empty-clause-left : goal.returns-then-is_empty-clause-left
returns-then-is_empty-clause-left g c told n sound =
    let id = c.args.id in
    let old = state_of g.K.Keeper.seen c.args.work.now in
    let remake : (ℕ → Bool) → List Value → List Value = λ w. remade_cells (application_of c.args.app.now).models w c.args.model id (sets_at w c.args.sets.now) in
    let model : model_of_id id ≡ c.args.model = grind (arith, nat_tests, c.requires.id) in
    absent_by n id c.args.model old (state_of g.K.Keeper.seen c.one.new.self) c.args.guard.now c.in_ok-rows.rows
    (λ w. map (remake w)) (λ w. changed_rows id (remake w)) (λ w. refl) (λ w. step_changed id (remake w)) sound
    (c.in_ok-rows.ensures.exact told ∙ ap (λ m. alternatives id (rows_of old.tables m)) model)
    (rw (← c.as_slice-rows.ensures) c.if-is_empty.ensures) (c.in_ok-rows.ensures.reads.same.same_state told)

pub returns-clause-left : goal.returns-clause-left
returns-clause-left g c told n sound =
    let read = c.in_ok-replace.ensures.back told in
    let id = c.args.id in
    let old = state_of g.K.Keeper.seen c.args.work.now in
    let remake : (ℕ → Bool) → List Value → List Value = λ w. remade_cells (application_of c.args.app.now).models w c.args.model id (sets_at w c.args.sets.now) in
    let model : model_of_id id ≡ c.args.model = grind (arith, nat_tests, c.requires.id) in
    replaced_by c.sound_after_change.ensures n id c.args.model old (state_of g.K.Keeper.seen c.one.new.self) (state_of g.K.Keeper.seen c.replace.new.self)
    c.args.guard.now c.in_ok-rows.rows c.as_slice-rows.result.now c.in_ok-remade.remade.items c.in_ok-merged.merged
    (λ w. map (remake w)) (λ w. changed_rows id (remake w)) (λ w cs few. few_mapped (remake w) cs few) (λ w. step_changed id (remake w)) sound model
    (c.in_ok-rows.ensures.exact read ∙ ap (λ m. alternatives id (rows_of old.tables m)) model)
    c.if-is_empty.ensures c.as_slice-rows.ensures (c.in_ok-merged.ensures.own id c.in_ok-remade.ensures.own) c.in_ok-remade.ensures.shown c.in_ok-merged.ensures.shown
    (c.in_ok-rows.ensures.reads.same.same_state read) c.in_ok-replace.ensures.exact

pub replace-requires-clause-own : goal.replace-requires-clause-own
replace-requires-clause-own g c = c.in_ok-merged.ensures.own c.args.id c.in_ok-remade.ensures.own

pub returns-clause-merged : goal.returns-clause-merged
returns-clause-merged g c told =
    let read = c.in_ok-replace.ensures.back told in
    put_merged c.args.id (state_of g.K.Keeper.seen c.args.work.now) (state_of g.K.Keeper.seen c.one.new.self) (state_of g.K.Keeper.seen c.replace.new.self)
    c.in_ok-merged.merged (c.in_ok-merged.ensures.own c.args.id c.in_ok-remade.ensures.own) c.in_ok-merged.ensures.merged
    (c.in_ok-rows.ensures.reads.same.same_state read) c.in_ok-replace.ensures.exact

pub returns-then-is_empty-clause-merged : goal.returns-then-is_empty-clause-merged
returns-then-is_empty-clause-merged g c told =
    kept (state_of g.K.Keeper.seen c.args.work.now) (state_of g.K.Keeper.seen c.one.new.self) (c.in_ok-rows.ensures.reads.same.same_state told)
