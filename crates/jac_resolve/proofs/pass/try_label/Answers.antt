use Rattle.std.proofs.Common.{◌≡◌, ℕ, Bool, false, rules, subst}
use Rattle.jac_world.specs.World.{shown_by}
use Rattle.jac_lang.specs.Mirror.{application_of}
use Rattle.jac_keep.specs.WorkState.{state_of}
use Rattle.jac_plain.specs.Policies.{with_label}
use Rattle.jac_resolve.specs.RightMemo.{Fitting, Stays, is_affected}
use Rattle.jac_resolve.proofs.Underway.{refused_also, taken_back, underway_added, underway_same, underway_still}
use Rattle.jac_resolve.proofs.pass.try_label.Goals as goal
use Rattle.jac_plain.specs.Shown.{worlds_of}

pub returns-then-not-stay-clause-tries : goal.returns-then-not-stay-clause-tries
returns-then-not-stay-clause-tries g c told before hidden =
    let app = application_of c.args.app.now in
    let worlds = worlds_of (state_of g.K.Keeper.seen c.args.work.now) in
    let viewer = c.args.viewer.now in
    let a = c.args.a.now in
    let more = c.add.new.self in
    let also : (k : ℕ) → shown_by more k ≡ with_label c.args.label (shown_by a) k = c.in_ok-add.ensures.added in
    refused_also app worlds viewer a more c.may_stay.new.answers c.args.label also
    (subst (λ (b : Bool). Stays app worlds viewer c.may_stay.new.answers (shown_by more) (is_affected c.args.answers.now c.args.label) b) c.if-not-stay.true (c.in_ok-stay.ensures.value told before.right))

pub returns-clause-tries : goal.returns-clause-tries
returns-clause-tries g c told before =
    let app = application_of c.args.app.now in
    let worlds = worlds_of (state_of g.K.Keeper.seen c.args.work.now) in
    let viewer = c.args.viewer.now in
    let a = c.args.a.now in
    let more = c.add.new.self in
    let also : (k : ℕ) → shown_by more k ≡ with_label c.args.label (shown_by a) k = c.in_ok-add.ensures.added in
    let underway = underway_added app worlds viewer a more c.args.label c.args.answers.now c.may_stay.new.answers also before
    (c.in_ok-stay.ensures.right told before.right) c.in_ok-stay.ensures.grown
    (subst (λ (b : Bool). Stays app worlds viewer c.may_stay.new.answers (shown_by more) (is_affected c.args.answers.now c.args.label) b) c.if-not-stay.false (c.in_ok-stay.ensures.value told before.right))
    (subst (λ (b : Bool). Fitting c.may_stay.new.answers (shown_by more) (is_affected c.args.answers.now c.args.label) b) c.if-not-stay.false c.in_ok-stay.ensures.fits) in
    underway.allowed

pub returns-clause-underway : goal.returns-clause-underway
returns-clause-underway g c told before =
    let app = application_of c.args.app.now in
    let worlds = worlds_of (state_of g.K.Keeper.seen c.args.work.now) in
    let viewer = c.args.viewer.now in
    let a = c.args.a.now in
    let more = c.add.new.self in
    let also : (k : ℕ) → shown_by more k ≡ with_label c.args.label (shown_by a) k = c.in_ok-add.ensures.added in
    underway_added app worlds viewer a more c.args.label c.args.answers.now c.may_stay.new.answers also before
    (c.in_ok-stay.ensures.right told before.right) c.in_ok-stay.ensures.grown
    (subst (λ (b : Bool). Stays app worlds viewer c.may_stay.new.answers (shown_by more) (is_affected c.args.answers.now c.args.label) b) c.if-not-stay.false (c.in_ok-stay.ensures.value told before.right))
    (subst (λ (b : Bool). Fitting c.may_stay.new.answers (shown_by more) (is_affected c.args.answers.now c.args.label) b) c.if-not-stay.false c.in_ok-stay.ensures.fits)

pub returns-then-not-stay-clause-grows : goal.returns-then-not-stay-clause-grows
returns-then-not-stay-clause-grows g c =
    let a = c.args.a.now in
    let more = c.add.new.self in
    let also : (k : ℕ) → shown_by more k ≡ with_label c.args.label (shown_by a) k = c.in_ok-add.ensures.added in
    let hidden : shown_by a c.args.label ≡ false = search rules in
    taken_back a more c.remove.new.self c.args.label hidden also c.remove.ensures

pub returns-then-not-stay-clause-underway : goal.returns-then-not-stay-clause-underway
returns-then-not-stay-clause-underway g c told before =
    let app = application_of c.args.app.now in
    let worlds = worlds_of (state_of g.K.Keeper.seen c.args.work.now) in
    let viewer = c.args.viewer.now in
    let a = c.args.a.now in
    let more = c.add.new.self in
    let also : (k : ℕ) → shown_by more k ≡ with_label c.args.label (shown_by a) k = c.in_ok-add.ensures.added in
    let hidden : shown_by a c.args.label ≡ false = search rules in
    underway_same app worlds viewer a c.remove.new.self c.may_stay.new.answers (taken_back a more c.remove.new.self c.args.label hidden also c.remove.ensures)
    (underway_still app worlds viewer a c.args.answers.now c.may_stay.new.answers before (c.in_ok-stay.ensures.right told before.right) c.in_ok-stay.ensures.grown)
