use Rattle.std.proofs.Common.{◌≡◌, ℕ, true, List, [], sym, subst, rules, arith}
use Rattle.jac_world.specs.World.{shown_by}
use Rattle.jac_lang.specs.Mirror.{application_of}
use Rattle.jac_rows.specs.declared.state.State.{State}
use Rattle.jac_keep.specs.WorkState.{state_of}
use Rattle.jac_shown_rows.specs.Local.{IsLocalCase}
use Rattle.jac_resolve.specs.RightMemo.{IsUnderway}
use Rattle.jac_resolve.proofs.Greedy.{within_then}
use Rattle.jac_resolve.proofs.Room.{spends_same, spends_then}
use Rattle.jac_resolve.proofs.pass.settle_among.Goals as goal
use Rattle.jac_plain.specs.Shown.{worlds_of}

pub rounds-init : goal.rounds-init
rounds-init g c =
    let app = application_of c.args.app.now in
    let viewer = c.args.viewer.now in
    let worlds = worlds_of (state_of g.K.Keeper.seen c.args.work.now) in
    let answers = c.args.answers.now in (
      (λ j s. absurd (let e : shown_by [] j ≡ true = subst (λ (l : List ℕ). shown_by l j ≡ true) c.empty-assignment.ensures s in cc)),
      omega arith,
      record {
        told = λ told. record {
          is_computed = subst (λ (l : List ℕ). IsUnderway app worlds viewer l answers) (sym c.empty-assignment.ensures) (c.requires.underway told);
          is_spent = λ local own. spends_same c.args.tried.now c.args.evaluations.now answers own;
        };
        same = search rules;
      },
    )

pub rounds-preserved : goal.rounds-preserved
rounds-preserved g c =
    let app = application_of c.args.app.now in
    let viewer = c.args.viewer.now in
    let tried = c.args.tried.now in
    let new = c.try_labels.new.a in
    let known = c.try_labels.new.answers in
    let so_far = c.rounds.invariant in
    let round = c.in_ok-added.ensures in (
      within_then tried [] c.rounds.assignment new so_far.0 round.within,
      omega (arith, so_far.1, round.later),
      record {
        told = λ told.
            let before = round.reads.same.told told in
            let moved = so_far.2.same.same_state before in
            let was = so_far.2.told before in
            record {
              is_computed = subst (λ (s : State). IsUnderway app (worlds_of s) viewer new known) moved
                  (round.underway told (subst (λ (s : State). IsUnderway app (worlds_of s) viewer c.rounds.assignment c.rounds.answers) (sym moved) was.is_computed));
              is_spent = λ local own.
                  let spent = was.is_spent local own in
                  spends_then tried c.args.evaluations.now c.rounds.evaluations c.try_labels.new.evaluations c.args.answers.now c.rounds.answers known spent
                  (round.spends told (subst (λ (s : State). IsLocalCase app s viewer) (sym moved) local) spent.own);
            };
        same = search rules;
      },
    )
