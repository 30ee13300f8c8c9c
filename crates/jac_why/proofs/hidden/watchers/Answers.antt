use Rattle.std.proofs.Common.{◌+◌, ◌≤◌, drop, length, subst, rules, arith}
use Rattle.jac_rows.specs.declared.state.State.{State}
use Rattle.jac_keep.specs.WorkState.{state_of}
use Rattle.jac_shown_rows.proofs.Working.{next}
use Rattle.jac_resolve.proofs.Greedy.{first_is_shown, none_left}
use Rattle.jac_why.specs.Context.{context_on}
use Rattle.jac_why.specs.Watched.{IsWatching}
use Rattle.jac_why.proofs.Asking.{watching_all, watching_none, watching_on}
use Rattle.jac_why.proofs.hidden.watchers.Goals as goal

pub labels-init : goal.labels-init
labels-init g c = (
  omega arith,
  record {
    told = λ told. watching_none (context_on (state_of g.K.Keeper.seen c.args.work.now) c.args.context.now) c.empty-watchers.result c.empty-watchers.ensures;
    same = search rules;
  },
)

pub labels-preserved : goal.labels-preserved
labels-preserved g c =
    let k = g.K.Keeper in
    let asking = c.args.context.now in
    let labels = asking.labels.now in
    let x = c.label-item.result in
    let i = c.labels.label-index in
    let old = c.labels.watchers in
    let new = c.add_watcher.new.watchers in
    let items = c.as_slice-label-items.ensures.labels in
    let is = rw items at c.label-item.is in
    let below = rw items at c.labels-test.true in
    let same = c.labels.invariant.1.same in (
      omega (arith, c.labels.invariant.0, c.in_ok-add_watcher.ensures.later),
      record {
        told = λ told.
            let before = c.in_ok-add_watcher.ensures.reads.same.told told in
            let moved = same.same_state before in
            watching_on (context_on (state_of k.seen c.args.work.now) asking) (drop i labels) (drop (i + 1) labels) x old new (next labels x i is below)
            (first_is_shown labels i x is below)
            (subst (λ (s : State). IsWatching (context_on s asking) x old new) moved (c.in_ok-add_watcher.ensures.watching told))
            (c.labels.invariant.1.told before);
        same = search rules;
      },
    )

pub returns-clause-watching : goal.returns-clause-watching
returns-clause-watching g c told =
    let labels = c.args.context.now.labels.now in
    let past : length labels ≤ c.labels.label-index = search rules in
    watching_all (context_on (state_of g.K.Keeper.seen c.args.work.now) c.args.context.now) (drop c.labels.label-index labels) c.labels.watchers
    (none_left labels c.labels.label-index past) (c.labels.invariant.1.told told)
