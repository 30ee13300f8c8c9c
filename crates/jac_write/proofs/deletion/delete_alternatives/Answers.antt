use Rattle.std.proofs.Common.{refl, arith, []}
use Rattle.jac_value.specs.Ids.{model_of_id}
use Rattle.jac_keep.specs.WorkState.{state_of}
use Rattle.jac_plain.specs.Records.{without}
use Rattle.jac_write.proofs.MergedLaws.{kept, put_merged}
use Rattle.jac_write.proofs.RecordLaws.{absent_by, replaced_by, step_without}
use Rattle.jac_write.proofs.deletion.delete_alternatives.Goals as goal

pub returns-then-is_empty-clause-left : goal.returns-then-is_empty-clause-left
returns-then-is_empty-clause-left g c told n sound =
    let rows = c.in_ok-rows.rows in
    absent_by n c.args.id (model_of_id c.args.id) (state_of g.K.Keeper.seen c.args.work.now) (state_of g.K.Keeper.seen c.one.new.self) c.args.guard.now
    rows (λ w cs. []) (λ w. without c.args.id) (λ w. refl) (λ w. step_without c.args.id) sound (c.in_ok-rows.ensures.exact told)
    (rw (← c.as_slice.ensures) c.if-is_empty.ensures) (c.in_ok-rows.ensures.reads.same.same_state told)

pub returns-clause-left : goal.returns-clause-left
returns-clause-left g c told n sound =
    let read = c.in_ok-replace.ensures.back told in
    replaced_by c.sound_after_change.ensures n c.args.id (model_of_id c.args.id) (state_of g.K.Keeper.seen c.args.work.now) (state_of g.K.Keeper.seen c.one.new.self)
    (state_of g.K.Keeper.seen c.replace.new.self) c.args.guard.now c.in_ok-rows.rows c.as_slice-2.result.now c.in_ok-kept.kept.items c.in_ok-merged.merged
    (λ w cs. []) (λ w. without c.args.id) (λ w cs few. omega arith) (λ w. step_without c.args.id) sound refl (c.in_ok-rows.ensures.exact read)
    (rw (c.as_slice-2.ensures, ← c.as_slice.ensures) c.if-is_empty.ensures) c.as_slice-2.ensures (c.in_ok-merged.ensures.own c.args.id c.in_ok-kept.ensures.own) c.in_ok-kept.ensures.shown c.in_ok-merged.ensures.shown
    (c.in_ok-rows.ensures.reads.same.same_state read) c.in_ok-replace.ensures.exact

pub replace-requires-clause-own : goal.replace-requires-clause-own
replace-requires-clause-own g c = c.in_ok-merged.ensures.own c.args.id c.in_ok-kept.ensures.own

pub returns-clause-merged : goal.returns-clause-merged
returns-clause-merged g c told =
    let read = c.in_ok-replace.ensures.back told in
    put_merged c.args.id (state_of g.K.Keeper.seen c.args.work.now) (state_of g.K.Keeper.seen c.one.new.self) (state_of g.K.Keeper.seen c.replace.new.self)
    c.in_ok-merged.merged (c.in_ok-merged.ensures.own c.args.id c.in_ok-kept.ensures.own) c.in_ok-merged.ensures.merged
    (c.in_ok-rows.ensures.reads.same.same_state read) c.in_ok-replace.ensures.exact

pub returns-then-is_empty-clause-merged : goal.returns-then-is_empty-clause-merged
returns-then-is_empty-clause-merged g c told =
    kept (state_of g.K.Keeper.seen c.args.work.now) (state_of g.K.Keeper.seen c.one.new.self) (c.in_ok-rows.ensures.reads.same.same_state told)
