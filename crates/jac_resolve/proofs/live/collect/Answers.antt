use Rattle.std.proofs.Common.{◌≡◌, ◌<◌, ◌^◌, ◌++◌, ◌∙◌, All, subst, rules}
use Rattle.jac_rows.specs.declared.row.Row.{Row}
use Rattle.jac_lang.specs.Mirror.{entities_of}
use Rattle.jac_rows.specs.Tables.{rows_of}
use Rattle.jac_rows.specs.declared.state.State.{State}
use Rattle.jac_keep.specs.WorkState.{state_of}
use Rattle.jac_resolve.specs.Collected.{labels_of_rows, CanHold}
use Rattle.jac_resolve.proofs.Collecting.{in_range, count_there, collects_more}
use Rattle.jac_resolve.proofs.live.collect.Goals as goal

pub models-preserved : goal.models-preserved
models-preserved g c =
    let k = g.K.Keeper in
    let same = c.models.invariant.same in
    let place = c.models.place in
    let old = c.models.labels.items in
    let new = c.add_model.new.labels.items in
    let groups = c.group_count-groups.result in
    let s = state_of k.seen c.args.work.now in
    record {
      told = λ told.
          let before = c.in_ok-add_model.ensures.reads.same.told told in
          let is = same.same_state before in
          let range = in_range s place (c.requires.sound (same.told before)) in
          collects_more (entities_of c.args.models.now) s.tables place groups old new (c.models.invariant.told before)
          (subst (λ (t : State). All (λ (r : Row). r.id < 2 ^ 124) (rows_of t.tables place) → new ≡ old ++ labels_of_rows groups (rows_of t.tables place)) is (c.in_ok-add_model.ensures.labels told) range)
          (subst (λ (t : State). 0 < groups → CanHold (rows_of t.tables place)) is (c.in_ok-add_model.ensures.guards told))
          (c.group_count-groups.ensures.count ∙ count_there c.args.models.now place c.index-models-place.result c.index-models-place.is c.models-test.true)
          c.group_count-groups.ensures.few;
      same = search rules;
    }
