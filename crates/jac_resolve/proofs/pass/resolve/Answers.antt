use Rattle.std.proofs.Common.{ℕ, List, sym, subst}
use Rattle.jac_world.specs.World.{IsAscending}
use Rattle.jac_lang.specs.Mirror.{application_of}
use Rattle.jac_rows.specs.declared.state.State.{State}
use Rattle.jac_keep.specs.WorkState.{state_of}
use Rattle.jac_shown_rows.specs.Local.{IsLocalCase}
use Rattle.jac_resolve.specs.Rounds.{AreLive}
use Rattle.jac_resolve.proofs.Room.{live_asked, none_asked}
use Rattle.jac_resolve.proofs.pass.resolve.Goals as goal
use Rattle.jac_plain.specs.Shown.{worlds_of}

pub returns-in_err-labels-clause-bounded : goal.returns-in_err-labels-clause-bounded
returns-in_err-labels-clause-bounded g c told = none_asked (application_of c.args.app.now) (state_of g.K.Keeper.seen c.args.work.now) c.args.viewer c.args.evaluations.now

pub returns-in_err-assignment-clause-bounded : goal.returns-in_err-assignment-clause-bounded
returns-in_err-assignment-clause-bounded g c told =
    let app = application_of c.args.app.now in
    let s = state_of g.K.Keeper.seen c.args.work.now in
    let before = c.in_err-assignment.ensures.reads.same.told told in
    let moved = c.in_ok-labels.ensures.reads.same.same_state before in
    live_asked app s c.args.viewer c.as_slice.result.now c.args.evaluations.now c.settle.new.evaluations (subst IsAscending (sym c.as_slice.ensures.labels) c.as_slice.ensures.ascending)
    (subst (λ (l : List ℕ). AreLive app (worlds_of s) l) (sym c.as_slice.ensures.labels) (c.in_ok-labels.ensures.live before))
    (λ local. c.in_err-assignment.ensures.bounded told (subst (λ (s : State). IsLocalCase app s c.args.viewer) (sym moved) local))

pub returns-clause-bounded : goal.returns-clause-bounded
returns-clause-bounded g c told =
    let app = application_of c.args.app.now in
    let s = state_of g.K.Keeper.seen c.args.work.now in
    let before = c.in_ok-assignment.ensures.reads.same.told told in
    let moved = c.in_ok-labels.ensures.reads.same.same_state before in
    live_asked app s c.args.viewer c.as_slice.result.now c.args.evaluations.now c.settle.new.evaluations (subst IsAscending (sym c.as_slice.ensures.labels) c.as_slice.ensures.ascending)
    (subst (λ (l : List ℕ). AreLive app (worlds_of s) l) (sym c.as_slice.ensures.labels) (c.in_ok-labels.ensures.live before))
    (λ local. c.in_ok-assignment.ensures.bounded told (subst (λ (s : State). IsLocalCase app s c.args.viewer) (sym moved) local))
