use Rattle.std.proofs.Common.{◌≡◌, ◌+◌, ◌++◌, [], drop, subst, sym, rules, arith}
use Rattle.jac_lang.specs.Mirror.{application_of}
use Rattle.jac_rows.specs.declared.state.State.{State}
use Rattle.jac_keep.specs.WorkState.{state_of}
use Rattle.jac_plain.specs.Policies.{AreAllowed}
use Rattle.jac_shown_rows.proofs.Working.{next}
use Rattle.jac_why.specs.Context.{context_on}
use Rattle.jac_why.specs.Watched.{AreWatching}
use Rattle.jac_why.specs.Whys.{why_at, all_whys}
use Rattle.jac_why.proofs.Explaining.{whys_on}
use Rattle.jac_why.proofs.hidden.watched_whys.Goals as goal
use Rattle.jac_plain.specs.Shown.{worlds_of}

pub labels-preserved : goal.labels-preserved
labels-preserved g c =
    let k = g.K.Keeper in
    let asking = c.args.context.now in
    let live = c.args.live.now in
    let watchers = c.args.watchers.now in
    let x = c.label-item.result in
    let i = c.labels.label-index in
    let made = c.labels.whys.items in
    let new = c.add_why.new.whys.items in
    let context = context_on (state_of k.seen c.args.work.now) asking in
    let same = c.labels.invariant.1.same in (
      omega (arith, c.labels.invariant.0, c.in_ok-add_why.ensures.later),
      record {
        told = λ told allowed watching.
            let before = c.in_ok-add_why.ensures.reads.same.told told in
            let moved = same.same_state before in
            let allowed_now = subst (λ (s : State). AreAllowed (application_of asking.app.now) (worlds_of s) asking.viewer asking.labels.now) (sym moved) allowed in
            let watching_now = subst (λ (s : State). AreWatching (context_on s asking) [] watchers) (sym moved) watching in
            whys_on context (drop i live) (drop (i + 1) live) x made new (all_whys context live) (next live x i c.label-item.is c.labels-test.true)
            (subst (λ (s : State). new ≡ made ++ why_at (context_on s asking) x) moved (c.in_ok-add_why.ensures.added told allowed_now watching_now))
            (c.labels.invariant.1.told before allowed watching);
        same = search rules;
      },
    )
