use Rattle.std.proofs.Common.{ℕ, List, sym, subst}
use Rattle.jac_world.specs.World.{IsAscending}
use Rattle.jac_lang.specs.Mirror.{application_of}
use Rattle.jac_rows.specs.declared.state.State.{State}
use Rattle.jac_keep.specs.WorkState.{state_of}
use Rattle.jac_shown_rows.specs.Local.{IsLocalCase}
use Rattle.jac_policy_cache.specs.declared.viewer_cache.ViewerCache.{ViewerCache}
use Rattle.jac_resolve.specs.Rounds.{AreLive}
use Rattle.jac_resolve.specs.RightMemo.{IsPassed}
use Rattle.jac_resolve.specs.ValidCache.{IsValidCache}
use Rattle.jac_resolve.proofs.CacheLemmas.{valid_all}
use Rattle.jac_resolve.proofs.Room.{first_asked, none_asked}
use Rattle.jac_resolve.proofs.settled_cache.settle_all.Goals as goal
use Rattle.jac_plain.specs.Shown.{worlds_of}

pub returns-clause-valid : goal.returns-clause-valid
returns-clause-valid g c told =
    let k = g.K.Keeper in
    let app = application_of c.args.app.now in
    let viewer = c.args.viewer.now in
    let worlds = worlds_of (state_of k.seen c.args.work.now) in
    let before = c.in_ok-labels.ensures.reads.same.told told in
    let moved = c.in_ok-live.ensures.reads.same.same_state before in
    let labels = c.in_ok-labels.labels in
    let live = c.as_slice.result.now in
    let answers = c.settle_among.new.answers in
    subst (λ (s : ViewerCache). IsValidCache app worlds viewer s) (sym c.put_labels.ensures)
    (valid_all app worlds viewer labels live c.empty.result answers
    (subst (λ (l : List ℕ). AreLive app worlds l) (sym c.as_slice.ensures.labels) (c.in_ok-live.ensures.live before))
    (subst (λ (s : State). IsPassed app (worlds_of s) viewer answers live labels) moved (c.in_ok-labels.ensures.passed told)))

pub returns-clause-few : goal.returns-clause-few
returns-clause-few g c told empty =
    let app = application_of c.args.app.now in
    let viewer = c.args.viewer.now in
    let s = state_of g.K.Keeper.seen c.args.work.now in
    let before = c.in_ok-labels.ensures.reads.same.told told in
    let moved = c.in_ok-live.ensures.reads.same.same_state before in
    first_asked app s viewer c.as_slice.result.now c.args.cache.now.answers c.args.evaluations.now c.settle_among.new.evaluations (subst IsAscending (sym c.as_slice.ensures.labels) c.as_slice.ensures.ascending)
    (subst (λ (l : List ℕ). AreLive app (worlds_of s) l) (sym c.as_slice.ensures.labels) (c.in_ok-live.ensures.live before)) empty
    (λ local own. c.in_ok-labels.ensures.most told (subst (λ (s : State). IsLocalCase app s viewer) (sym moved) local) own)

pub returns-in_err-labels-clause-few : goal.returns-in_err-labels-clause-few
returns-in_err-labels-clause-few g c told empty =
    let app = application_of c.args.app.now in
    let viewer = c.args.viewer.now in
    let s = state_of g.K.Keeper.seen c.args.work.now in
    let before = c.in_err-labels.ensures.reads.same.told told in
    let moved = c.in_ok-live.ensures.reads.same.same_state before in
    first_asked app s viewer c.as_slice.result.now c.args.cache.now.answers c.args.evaluations.now c.settle_among.new.evaluations (subst IsAscending (sym c.as_slice.ensures.labels) c.as_slice.ensures.ascending)
    (subst (λ (l : List ℕ). AreLive app (worlds_of s) l) (sym c.as_slice.ensures.labels) (c.in_ok-live.ensures.live before)) empty
    (λ local own. c.in_err-labels.ensures.most told (subst (λ (s : State). IsLocalCase app s viewer) (sym moved) local) own)

pub returns-in_err-live-clause-few : goal.returns-in_err-live-clause-few
returns-in_err-live-clause-few g c told empty = none_asked (application_of c.args.app.now) (state_of g.K.Keeper.seen c.args.work.now) c.args.viewer.now c.args.evaluations.now
