use Rattle.std.proofs.Common.{◌≡◌, ◌+◌, ◌≤◌, ◌↔◌, true, drop, length, subst, rules}
use Rattle.jac_lang.specs.Mirror.{application_of}
use Rattle.jac_rows.specs.declared.state.State.{State}
use Rattle.jac_keep.specs.WorkState.{state_of}
use Rattle.jac_plain.specs.Policies.{IsLiveLabel}
use Rattle.jac_shown_rows.proofs.Working.{next}
use Rattle.jac_resolve.proofs.Greedy.{first_is_shown, none_left}
use Rattle.jac_resolve.proofs.Living.{live_on, live_all}
use Rattle.jac_resolve.proofs.live.live_of.Goals as goal
use Rattle.jac_plain.specs.Shown.{worlds_of}

pub labels-preserved : goal.labels-preserved
labels-preserved g c =
    let k = g.K.Keeper in
    let app = application_of c.args.app.now in
    let x = c.label-item.result in
    let labels = c.args.labels.now in
    let i = c.labels.label-index in
    let same = c.labels.invariant.same in
    record {
      told = λ told.
          let before = c.in_ok-live.ensures.reads.same.told told in
          let moved = same.same_state before in
          live_on app (worlds_of (state_of k.seen c.args.work.now)) labels (drop i labels) c.labels.some.items x (drop (i + 1) labels) c.push_if.new.some.items c.in_ok-live.live
          (next labels x i c.label-item.is c.labels-test.true)
          (first_is_shown labels i x c.label-item.is c.labels-test.true)
          (subst (λ (s : State). (c.in_ok-live.live ≡ true) ↔ IsLiveLabel app (worlds_of s) x) moved (c.in_ok-live.ensures.live told))
          c.in_ok-push_if.ensures
          (c.labels.invariant.told before);
      same = search rules;
    }

pub returns-clause-live : goal.returns-clause-live
returns-clause-live g c told =
    let labels = c.args.labels.now in
    let past : length labels ≤ c.labels.label-index = search rules in
    live_all (application_of c.args.app.now) (worlds_of (state_of g.K.Keeper.seen c.args.work.now)) labels (drop c.labels.label-index labels) c.labels.some.items
    (none_left labels c.labels.label-index past) (c.labels.invariant.told told)
