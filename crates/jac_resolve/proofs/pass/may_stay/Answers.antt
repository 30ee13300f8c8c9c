use Rattle.std.proofs.Common.{◌∙◌, ◌==◌, Bool, ap, sym, subst}
use Rattle.jac_world.specs.World.{shown_by}
use Rattle.jac_lang.specs.Mirror.{application_of}
use Rattle.jac_rows.specs.declared.state.State.{State}
use Rattle.jac_keep.specs.WorkState.{state_of}
use Rattle.jac_resolve.specs.RightMemo.{AreRight, Fitting, Stays}
use Rattle.jac_shown_rows.specs.Local.{IsLocalCase}
use Rattle.jac_resolve.proofs.Room.{most_then, spends_then}
use Rattle.jac_resolve.proofs.Underway.{fits_both, stays_both}
use Rattle.jac_resolve.proofs.pass.may_stay.Goals as goal
use Rattle.jac_plain.specs.Shown.{worlds_of}

pub returns-clause-value : goal.returns-clause-value
returns-clause-value g c told right =
    let app = application_of c.args.app.now in
    let viewer = c.args.viewer.now in
    let w = shown_by c.args.a.now in
    let worlds = worlds_of (state_of g.K.Keeper.seen c.args.work.now) in
    let mid = c.asked_stays.new.answers in
    let watchers = c.as_slice.result.now in
    let before = c.in_ok-stay.ensures.reads.same.told told in
    let moved = c.in_ok-own.ensures.reads.same.same_state before in
    let known = subst (λ (s : State). AreRight app (worlds_of s) viewer mid) (sym moved) (c.in_ok-own.ensures.right before right) in
    stays_both app worlds viewer w c.args.answers.now mid c.watchers_stay.new.answers c.args.label watchers c.in_ok-stay.stay
    (λ j. ap (λ l. shown_by l j) c.as_slice.ensures.labels ∙ c.in_ok-watchers.ensures j)
    c.in_ok-own.ensures.grown
    (subst (λ (b : Bool). Stays app worlds viewer mid w (λ j. c.args.label == j) b) c.if-not-own.false (c.in_ok-own.ensures.value before right))
    (subst (λ (s : State). Stays app (worlds_of s) viewer c.watchers_stay.new.answers w (shown_by watchers) c.in_ok-stay.stay) moved (c.in_ok-stay.ensures.value told known))

pub returns-clause-fits : goal.returns-clause-fits
returns-clause-fits g c =
    let w = shown_by c.args.a.now in
    let mid = c.asked_stays.new.answers in
    let watchers = c.as_slice.result.now in
    fits_both w c.args.answers.now mid c.watchers_stay.new.answers c.args.label watchers c.in_ok-stay.stay
    (λ j. ap (λ l. shown_by l j) c.as_slice.ensures.labels ∙ c.in_ok-watchers.ensures j)
    c.in_ok-own.ensures.grown c.in_ok-stay.ensures.grown
    (subst (λ (b : Bool). Fitting mid w (λ j. c.args.label == j) b) c.if-not-own.false c.in_ok-own.ensures.fits)
    c.in_ok-stay.ensures.fits

pub returns-clause-spends : goal.returns-clause-spends
returns-clause-spends g c told local labels among own =
    let app = application_of c.args.app.now in
    let viewer = c.args.viewer.now in
    let old = c.args.answers.now in
    let mid = c.asked_stays.new.answers in
    let before = c.in_ok-stay.ensures.reads.same.told told in
    let moved = c.in_ok-own.ensures.reads.same.same_state before in
    let first = c.in_ok-own.ensures.spends before local labels among own in
    spends_then labels c.args.evaluations.now c.asked_stays.new.evaluations c.watchers_stay.new.evaluations old mid c.watchers_stay.new.answers first
    (c.in_ok-stay.ensures.spends told (subst (λ (s : State). IsLocalCase app s viewer) (sym moved) local) labels
    (λ j s. first.own.among c.args.label j (sym (ap (λ l. shown_by l j) c.as_slice.ensures.labels ∙ c.in_ok-watchers.ensures j) ∙ s)) first.own)

pub returns-clause-most : goal.returns-clause-most
returns-clause-most g c told local labels among own =
    let app = application_of c.args.app.now in
    let viewer = c.args.viewer.now in
    let old = c.args.answers.now in
    let mid = c.asked_stays.new.answers in
    let before = c.in_ok-stay.ensures.reads.same.told told in
    let moved = c.in_ok-own.ensures.reads.same.same_state before in
    let first = c.in_ok-own.ensures.spends before local labels among own in
    most_then labels c.args.evaluations.now c.asked_stays.new.evaluations c.watchers_stay.new.evaluations old mid first
    (c.in_ok-stay.ensures.most told (subst (λ (s : State). IsLocalCase app s viewer) (sym moved) local) labels
    (λ j s. first.own.among c.args.label j (sym (ap (λ l. shown_by l j) c.as_slice.ensures.labels ∙ c.in_ok-watchers.ensures j) ∙ s)) first.own)
