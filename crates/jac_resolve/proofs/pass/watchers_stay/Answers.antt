use Rattle.std.proofs.Common.{◌≡◌, ◌+◌, ◌==◌, Bool, true, is_some, drop, sym, subst, rules, arith}
use Rattle.jac_world.specs.World.{shown_by}
use Rattle.jac_lang.specs.Mirror.{application_of}
use Rattle.jac_rows.specs.declared.state.State.{State}
use Rattle.jac_keep.specs.WorkState.{state_of}
use Rattle.jac_plain.specs.Policies.{is_allowed}
use Rattle.jac_policy_cache.specs.Memo.{recall}
use Rattle.jac_resolve.specs.RightMemo.{AreRight, Fitting, Stays}
use Rattle.jac_shown_rows.specs.Local.{IsLocalCase}
use Rattle.jac_shown_rows.proofs.Working.{next}
use Rattle.jac_resolve.proofs.Greedy.{first_is_shown}
use Rattle.jac_resolve.proofs.Room.{most_then, spends_then}
use Rattle.jac_resolve.proofs.Underway.{but_next, grown_then, itself}
use Rattle.jac_resolve.proofs.pass.watchers_stay.Goals as goal
use Rattle.jac_plain.specs.Shown.{worlds_of}

pub returns-then-not-stays-clause-spends : goal.returns-then-not-stays-clause-spends
returns-then-not-stays-clause-spends g c told local labels among own =
    let x = c.watcher-item.result in
    let before = c.in_ok-stays.ensures.reads.same.told told in
    let moved = c.watchers.invariant.working.same.same_state before in
    let spent = (c.watchers.invariant.working.told before).is_spent local labels among own in
    spends_then labels c.args.evaluations.now c.watchers.evaluations c.watcher_stays.new.evaluations c.args.answers.now c.watchers.answers c.watcher_stays.new.answers spent
    (c.in_ok-stays.ensures.spends told (subst (λ (s : State). IsLocalCase (application_of c.args.app.now) s c.args.viewer.now) (sym moved) local) labels
    (among x (first_is_shown c.args.watchers.now c.watchers.watcher-index x c.watcher-item.is c.watchers-test.true)) spent.own)

pub returns-then-not-stays-clause-most : goal.returns-then-not-stays-clause-most
returns-then-not-stays-clause-most g c told local labels among own =
    let x = c.watcher-item.result in
    let before = c.in_ok-stays.ensures.reads.same.told told in
    let moved = c.watchers.invariant.working.same.same_state before in
    let spent = (c.watchers.invariant.working.told before).is_spent local labels among own in
    most_then labels c.args.evaluations.now c.watchers.evaluations c.watcher_stays.new.evaluations c.args.answers.now c.watchers.answers spent
    (c.in_ok-stays.ensures.most told (subst (λ (s : State). IsLocalCase (application_of c.args.app.now) s c.args.viewer.now) (sym moved) local) labels
    (among x (first_is_shown c.args.watchers.now c.watchers.watcher-index x c.watcher-item.is c.watchers-test.true)) spent.own)

pub returns-in_err-stays-clause-most : goal.returns-in_err-stays-clause-most
returns-in_err-stays-clause-most g c told local labels among own =
    let x = c.watcher-item.result in
    let before = c.in_err-stays.ensures.reads.same.told told in
    let moved = c.watchers.invariant.working.same.same_state before in
    let spent = (c.watchers.invariant.working.told before).is_spent local labels among own in
    most_then labels c.args.evaluations.now c.watchers.evaluations c.watcher_stays.new.evaluations c.args.answers.now c.watchers.answers spent
    (c.in_err-stays.ensures.most told (subst (λ (s : State). IsLocalCase (application_of c.args.app.now) s c.args.viewer.now) (sym moved) local) labels
    (among x (first_is_shown c.args.watchers.now c.watchers.watcher-index x c.watcher-item.is c.watchers-test.true)) spent.own)

pub watchers-preserved : goal.watchers-preserved
watchers-preserved g c =
    let app = application_of c.args.app.now in
    let viewer = c.args.viewer.now in
    let worlds = worlds_of (state_of g.K.Keeper.seen c.args.work.now) in
    let w = shown_by c.args.a.now in
    let all = c.args.watchers.now in
    let i = c.watchers.watcher-index in
    let x = c.watcher-item.result in
    let new = c.watcher_stays.new.answers in
    let is = next all x i c.watcher-item.is c.watchers-test.true in
    let grown = c.in_ok-stays.ensures.grown in
    let fits = subst (λ (b : Bool). Fitting new w (λ j. x == j) b) c.if-not-stays.false c.in_ok-stays.ensures.fits in
    record {
      later = omega (arith, c.watchers.invariant.later, c.in_ok-stays.ensures.later);
      grown = grown_then c.args.answers.now c.watchers.answers new c.watchers.invariant.grown grown;
      fits = but_next (λ j. w j ≡ true → is_some (recall new j w) ≡ true) all (drop i all) (drop (i + 1) all) x is (fits x (itself x))
          (λ j s left own. grown.kept j w (c.watchers.invariant.fits j s left own));
      working = record {
        told = λ told.
            let before = c.in_ok-stays.ensures.reads.same.told told in
            let moved = c.watchers.invariant.working.same.same_state before in
            record {
              is_computed = λ right.
                  let round = (c.watchers.invariant.working.told before).is_computed right in
                  let known = subst (λ (s : State). AreRight app (worlds_of s) viewer c.watchers.answers) (sym moved) round.remembered in
                  let stays = subst (λ (b : Bool). Stays app worlds viewer new w (λ j. x == j) b) c.if-not-stays.false
                  (subst (λ (s : State). Stays app (worlds_of s) viewer new w (λ j. x == j) c.in_ok-stays.stays) moved (c.in_ok-stays.ensures.value told known)) in
                  record {
                    remembered = subst (λ (s : State). AreRight app (worlds_of s) viewer new) moved (c.in_ok-stays.ensures.right told known);
                    so_far = but_next (λ j. w j ≡ true → is_allowed app (worlds w) viewer j ≡ true) all (drop i all) (drop (i + 1) all) x is (stays x (itself x)) round.so_far;
                  };
              is_spent = λ local labels among own.
                  let spent = (c.watchers.invariant.working.told before).is_spent local labels among own in
                  spends_then labels c.args.evaluations.now c.watchers.evaluations c.watcher_stays.new.evaluations c.args.answers.now c.watchers.answers new spent
                  (c.in_ok-stays.ensures.spends told (subst (λ (s : State). IsLocalCase app s viewer) (sym moved) local) labels
                  (among x (first_is_shown all i x c.watcher-item.is c.watchers-test.true)) spent.own);
            };
        same = search rules;
      };
    }
