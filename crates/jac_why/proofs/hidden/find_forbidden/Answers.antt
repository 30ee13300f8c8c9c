use Rattle.std.proofs.Common.{◌≡◌, ◌+◌, ◌≤◌, drop, length, subst, rules, arith}
use Rattle.jac_world.specs.World.{shown_by}
use Rattle.jac_lang.specs.Mirror.{application_of}
use Rattle.jac_rows.specs.declared.state.State.{State}
use Rattle.jac_keep.specs.WorkState.{state_of}
use Rattle.jac_plain.specs.Policies.{is_allowed}
use Rattle.jac_shown_rows.proofs.Working.{next}
use Rattle.jac_resolve.proofs.Greedy.{none_left}
use Rattle.jac_why.specs.Whys.{first_forbidden}
use Rattle.jac_why.proofs.Explaining.{first_here, first_none, first_on}
use Rattle.jac_why.proofs.hidden.find_forbidden.Goals as goal
use Rattle.jac_plain.specs.Shown.{worlds_of}

pub labels-preserved : goal.labels-preserved
labels-preserved g c =
    let k = g.K.Keeper in
    let app = application_of c.args.app.now in
    let viewer = c.args.viewer.now in
    let a = c.args.a.now in
    let labels = c.args.labels.now in
    let x = c.label-item.result in
    let i = c.labels.label-index in
    let t = worlds_of (state_of k.seen c.args.work.now) (shown_by a) in
    let same = c.labels.invariant.1.same in (
      omega (arith, c.labels.invariant.0, c.in_ok-holds.ensures.later),
      record {
        told = λ told.
            let before = c.in_ok-holds.ensures.reads.same.told told in
            let moved = same.same_state before in
            first_on app t viewer (drop i labels) (drop (i + 1) labels) x (first_forbidden app t viewer labels) c.in_ok-holds.holds
            (next labels x i c.label-item.is c.labels-test.true)
            (subst (λ (s : State). c.in_ok-holds.holds ≡ is_allowed app (worlds_of s (shown_by a)) viewer x) moved (c.in_ok-holds.ensures.answer told))
            c.if-not-holds.false (c.labels.invariant.1.told before);
        same = search rules;
      },
    )

pub returns-then-not-holds-clause-first : goal.returns-then-not-holds-clause-first
returns-then-not-holds-clause-first g c told =
    let k = g.K.Keeper in
    let app = application_of c.args.app.now in
    let viewer = c.args.viewer.now in
    let a = c.args.a.now in
    let labels = c.args.labels.now in
    let x = c.label-item.result in
    let i = c.labels.label-index in
    let t = worlds_of (state_of k.seen c.args.work.now) (shown_by a) in
    let before = c.in_ok-holds.ensures.reads.same.told told in
    let moved = c.labels.invariant.1.same.same_state before in
    first_here app t viewer (drop i labels) (drop (i + 1) labels) x (first_forbidden app t viewer labels) c.in_ok-holds.holds
    (next labels x i c.label-item.is c.labels-test.true)
    (subst (λ (s : State). c.in_ok-holds.holds ≡ is_allowed app (worlds_of s (shown_by a)) viewer x) moved (c.in_ok-holds.ensures.answer told))
    c.if-not-holds.true (c.labels.invariant.1.told before)

pub returns-clause-first : goal.returns-clause-first
returns-clause-first g c told =
    let app = application_of c.args.app.now in
    let viewer = c.args.viewer.now in
    let a = c.args.a.now in
    let labels = c.args.labels.now in
    let t = worlds_of (state_of g.K.Keeper.seen c.args.work.now) (shown_by a) in
    let past : length labels ≤ c.labels.label-index = search rules in
    first_none app t viewer (drop c.labels.label-index labels) (first_forbidden app t viewer labels) (none_left labels c.labels.label-index past) (c.labels.invariant.1.told told)
