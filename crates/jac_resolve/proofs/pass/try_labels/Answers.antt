use Rattle.std.proofs.Common.{◌≡◌, ◌+◌, ◌≤◌, true, drop, length, sym, subst, rules, arith}
use Rattle.jac_world.specs.World.{shown_by}
use Rattle.jac_lang.specs.Mirror.{application_of}
use Rattle.jac_rows.specs.declared.state.State.{State}
use Rattle.jac_keep.specs.WorkState.{state_of}
use Rattle.jac_resolve.specs.RightMemo.{IsUnderway, Tries}
use Rattle.jac_shown_rows.specs.Local.{IsLocalCase}
use Rattle.jac_shown_rows.proofs.Working.{next}
use Rattle.jac_resolve.proofs.Room.{most_then, spends_most, spends_then}
use Rattle.jac_resolve.proofs.Greedy.{first_is_shown, advances, filled, retains_on, none_left, stays_within, round_on}
use Rattle.jac_resolve.proofs.pass.try_labels.Goals as goal
use Rattle.jac_plain.specs.Shown.{worlds_of}

pub labels-preserved : goal.labels-preserved
labels-preserved g c =
    let k = g.K.Keeper in
    let app = application_of c.args.app.now in
    let viewer = c.args.viewer.now in
    let x = c.label-item.result in
    let labels = c.args.labels.now in
    let i = c.labels.label-index in
    let start = c.args.a.now in
    let old = c.labels.a in
    let new = c.try_label.new.a in
    let among : shown_by labels x ≡ true = first_is_shown labels i x c.label-item.is c.labels-test.true in
    let grows = c.in_ok-one.ensures.grows in
    let same = c.labels.invariant.working.same in
    record {
      later = omega (arith, c.labels.invariant.later, c.in_ok-one.ensures.later);
      advances = advances labels start old new x c.labels.added c.in_ok-one.one among c.labels.invariant.advances grows;
      within = stays_within labels start old new x c.in_ok-one.one among c.labels.invariant.within grows;
      retains = retains_on start old new c.args.answers.now c.labels.answers c.try_label.new.answers x c.in_ok-one.one c.labels.invariant.retains grows c.in_ok-one.ensures.grown;
      working = record {
        told = λ told.
            let before = c.in_ok-one.ensures.reads.same.told told in
            let moved = same.same_state before in
            record {
              is_computed = λ underway.
                  let round = (c.labels.invariant.working.told before).is_computed underway in
                  let known = subst (λ (s : State). IsUnderway app (worlds_of s) viewer old c.labels.answers) (sym moved) round.underway in
                  round_on app (worlds_of (state_of k.seen c.args.work.now)) viewer labels (drop i labels) old new c.labels.answers c.try_label.new.answers x (drop (i + 1) labels)
                  c.labels.added c.in_ok-one.one (next labels x i c.label-item.is c.labels-test.true) c.in_ok-one.ensures.grown round grows
                  (subst (λ (s : State). Tries app (worlds_of s) viewer c.try_label.new.answers x old new c.in_ok-one.one) moved (c.in_ok-one.ensures.tries told known))
                  (subst (λ (s : State). IsUnderway app (worlds_of s) viewer new c.try_label.new.answers) moved (c.in_ok-one.ensures.underway told known));
              is_spent = λ local own.
                  let spent = (c.labels.invariant.working.told before).is_spent local own in
                  spends_then labels c.args.evaluations.now c.labels.evaluations c.try_label.new.evaluations c.args.answers.now c.labels.answers c.try_label.new.answers spent
                  (c.in_ok-one.ensures.spends told (subst (λ (s : State). IsLocalCase app s viewer) (sym moved) local) labels among spent.own);
            };
        same = search rules;
      };
    }

pub returns-in_err-one-clause-most : goal.returns-in_err-one-clause-most
returns-in_err-one-clause-most g c told local own =
    let app = application_of c.args.app.now in
    let viewer = c.args.viewer.now in
    let labels = c.args.labels.now in
    let x = c.label-item.result in
    let before = c.in_err-one.ensures.reads.same.told told in
    let moved = c.labels.invariant.working.same.same_state before in
    let among : shown_by labels x ≡ true = first_is_shown labels c.labels.label-index x c.label-item.is c.labels-test.true in
    let spent = (c.labels.invariant.working.told before).is_spent local own in
    most_then labels c.args.evaluations.now c.labels.evaluations c.try_label.new.evaluations c.args.answers.now c.labels.answers spent
    (c.in_err-one.ensures.most told (subst (λ (s : State). IsLocalCase app s viewer) (sym moved) local) labels among spent.own)

pub returns-clause-spends : goal.returns-clause-spends
returns-clause-spends g c told local own = (c.labels.invariant.working.told told).is_spent local own

pub returns-clause-most : goal.returns-clause-most
returns-clause-most g c told local own = spends_most c.args.labels.now c.args.evaluations.now c.labels.evaluations c.args.answers.now c.labels.answers ((c.labels.invariant.working.told told).is_spent local own)

pub returns-clause-fills : goal.returns-clause-fills
returns-clause-fills g c told underway =
    let labels = c.args.labels.now in
    let past : length labels ≤ c.labels.label-index = search rules in
    filled (application_of c.args.app.now) (worlds_of (state_of g.K.Keeper.seen c.args.work.now)) c.args.viewer.now c.labels.answers labels (drop c.labels.label-index labels) c.labels.a c.labels.added
    (none_left labels c.labels.label-index past) ((c.labels.invariant.working.told told).is_computed underway).fills

pub returns-clause-underway : goal.returns-clause-underway
returns-clause-underway g c told underway = ((c.labels.invariant.working.told told).is_computed underway).underway
