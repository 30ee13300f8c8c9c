use Rattle.std.proofs.Common.{◌∙◌, ◌<◌, ◌≤◌, ℕ, List, ap, sym, subst, arith}
use Rattle.jac_world.specs.World.{IsAscending}
use Rattle.jac_lang.specs.Mirror.{application_of}
use Rattle.jac_rows.specs.declared.state.State.{State}
use Rattle.jac_keep.specs.WorkState.{state_of}
use Rattle.jac_shown_rows.specs.Consulted.{Grows}
use Rattle.jac_shown_rows.proofs.Growing.{grows_then}
use Rattle.jac_resolve.specs.RightMemo.{IsPassed}
use Rattle.jac_resolve.specs.Live.{AreLiveOf}
use Rattle.jac_plain.specs.Requests.{Visit}
use Rattle.jac_lazy.specs.Steady.{IsPageOf, IsSteady}
use Rattle.jac_lazy.proofs.Shown.{counted_more, ended_steady, fewer_left, page_later}
use Rattle.jac_lazy.proofs.page.page_lazily.Goals as goal
use Rattle.jac_plain.specs.Shown.{worlds_of}

pub page_under-requires-clause-number : goal.page_under-requires-clause-number
page_under-requires-clause-number g c told =
    let middle = c.in_ok-shown.ensures.reads.same.told told in
    let first = c.in_ok-tried.ensures.reads.same.told middle in
    let here = c.in_ok-shown.ensures.reads.same.same_state told ∙ c.in_ok-tried.ensures.reads.same.same_state middle ∙ c.runs.invariant.2.same.same_state first in
    c.requires.number (c.runs.invariant.2.same.told first) ∙ ap (λ (s : State). s.number) (sym here)

pub page_under-requires-clause-earlier : goal.page_under-requires-clause-earlier
page_under-requires-clause-earlier g c told =
    let k = g.K.Keeper in
    let app = application_of c.args.app.now in
    let start = c.runs.consulted in
    let mid = c.add_consulted.new.consulted in
    let made = c.runs.made in
    let visit : Visit = record { view = c.args.view; env = c.args.env.now; viewer = c.args.ctx.now.viewer } in
    let middle = c.in_ok-shown.ensures.reads.same.told told in
    let first = c.in_ok-tried.ensures.reads.same.told middle in
    let here = c.in_ok-shown.ensures.reads.same.same_state told ∙ c.in_ok-tried.ensures.reads.same.same_state middle ∙ c.runs.invariant.2.same.same_state first in
    subst (λ (s : State). IsPageOf app (worlds_of s) mid made.shown visit made.page) (sym here)
    (page_later app (worlds_of (state_of k.seen c.args.work.now)) start mid made.shown visit made.page c.in_ok-add_consulted.ensures.grows (c.runs.invariant.2.told first).1)

pub returns-then-after-before-clause-page : goal.returns-then-after-before-clause-page
returns-then-after-before-clause-page g c told =
    let k = g.K.Keeper in
    let app = application_of c.args.app.now in
    let end = c.page_under.new.consulted in
    let made = c.in_ok-next.next in
    let visit : Visit = record { view = c.args.view; env = c.args.env.now; viewer = c.args.ctx.now.viewer } in
    let behind = c.in_ok-next.ensures.reads.same.told told in
    let middle = c.in_ok-shown.ensures.reads.same.told behind in
    let first = c.in_ok-tried.ensures.reads.same.told middle in
    let here = c.in_ok-shown.ensures.reads.same.same_state behind ∙ c.in_ok-tried.ensures.reads.same.same_state middle ∙ c.runs.invariant.2.same.same_state first in
    subst (λ (l : List ℕ). IsPageOf app (worlds_of (state_of k.seen c.args.work.now)) l made.shown visit made.page) (sym c.in_ok-consulted.ensures)
    (subst (λ (s : State). IsPageOf app (worlds_of s) end made.shown visit made.page) here (c.in_ok-next.ensures.page told))

pub returns-then-after-before-clause-steady : goal.returns-then-after-before-clause-steady
returns-then-after-before-clause-steady g c told =
    let k = g.K.Keeper in
    let app = application_of c.args.app.now in
    let viewer = c.args.ctx.now.viewer in
    let start = c.runs.consulted in
    let mid = c.add_consulted.new.consulted in
    let answers = c.settle_among.new.answers in
    let end = c.page_under.new.consulted in
    let labels = c.in_ok-shown.shown in
    let asked = c.as_slice.result.now in
    let tried = c.as_slice-in-runs.result.now in
    let one = c.count_of-before.ensures in
    let two = c.count_of-after.ensures in
    let behind = c.in_ok-next.ensures.reads.same.told told in
    let middle = c.in_ok-shown.ensures.reads.same.told behind in
    let first = c.in_ok-tried.ensures.reads.same.told middle in
    let moved = c.runs.invariant.2.same.same_state first in
    let moved_too = c.in_ok-tried.ensures.reads.same.same_state middle ∙ moved in
    let rises = subst (λ (l : List ℕ). IsAscending l) c.in_ok-next.ensures.shown c.in_ok-next.ensures.ascending in
    let worlds = worlds_of (state_of k.seen c.args.work.now) in
    subst (λ (l : List ℕ). IsSteady app worlds viewer l c.in_ok-next.next.shown) (sym c.in_ok-consulted.ensures)
    (subst (λ (l : List ℕ). IsSteady app worlds viewer end l) (sym c.in_ok-next.ensures.shown)
    (ended_steady app worlds viewer answers start mid end tried labels one.ascending two.ascending rises c.in_ok-add_consulted.ensures.grows c.in_ok-next.ensures.grows
    (sym two.count ∙ c.if-after-before.true ∙ one.count)
    (subst (λ (l : List ℕ). AreLiveOf app worlds l tried) c.as_slice.ensures.labels
    (subst (λ (l : List ℕ). AreLiveOf app worlds asked l) (sym c.as_slice-in-runs.ensures.value)
    (subst (λ (s : State). AreLiveOf app (worlds_of s) asked c.in_ok-tried.tried.items) moved (c.in_ok-tried.ensures.live middle))))
    (subst (λ (s : State). IsPassed app (worlds_of s) viewer answers tried labels) moved_too (c.in_ok-shown.ensures.passed behind))
    c.in_ok-add_consulted.ensures.added))

pub runs-smaller : goal.runs-smaller
runs-smaller g c =
    let start = c.runs.consulted in
    let end = c.page_under.new.consulted in
    let one = c.count_of-before.ensures in
    let two = c.count_of-after.ensures in
    let grows : Grows start end = grows_then start c.add_consulted.new.consulted end c.in_ok-add_consulted.ensures.grows c.in_ok-next.ensures.grows in
    let least : c.count_of-before.result ≤ c.count_of-after.result = counted_more start end c.count_of-before.result c.count_of-after.result one.ascending two.ascending grows one.count two.count in
    let more : c.count_of-before.result < c.count_of-after.result = omega (arith, least, c.if-after-before.false) in
    fewer_left start end c.count_of-before.result c.count_of-after.result one.ascending two.ascending grows one.count two.count two.few more
