use Rattle.std.proofs.Common.{◌≡◌, ◌&&◌, ◌∙◌, not, ℕ, List, Option, Some, ap, refl, sym, subst}
use Rattle.jac_world.specs.World.{shown_by}
use Rattle.jac_lang.specs.Mirror.{application_of}
use Rattle.jac_rows.specs.declared.state.State.{State}
use Rattle.jac_keep.specs.WorkState.{state_of}
use Rattle.jac_policy_cache.specs.declared.policy_memo.PolicyMemo.{PolicyMemo}
use Rattle.jac_policy_cache.specs.declared.viewer_cache.ViewerCache.{ViewerCache}
use Rattle.jac_resolve.specs.Live.{AreLiveOf}
use Rattle.jac_resolve.specs.RightMemo.{AreRefused, IsUnderway, Retains}
use Rattle.jac_resolve.specs.Rounds.{Within}
use Rattle.jac_resolve.specs.ValidCache.{IsValidCache, IsSettledApart, IsWidened, Widens, cache_labels}
use Rattle.jac_resolve.proofs.Apart.{kept_some, same_apart, valid_apart, settled_apart, underway_apart, widened_apart}
use Rattle.jac_resolve.proofs.settled_cache.settle_near.Goals as goal
use Rattle.jac_plain.specs.Shown.{worlds_of}

pub fill-requires-clause-underway : goal.fill-requires-clause-underway
fill-requires-clause-underway g c told =
    let k = g.K.Keeper in
    let app = application_of c.args.app.now in
    let viewer = c.args.viewer.now in
    let worlds = worlds_of (state_of k.seen c.args.work.now) in
    let cache = c.args.cache.now in
    let near = c.args.near.now in
    let labels = c.in_ok-rest.rest in
    let rest = c.remove_all.new.a in
    let put = c.put_labels.new.cache in
    let before = c.in_ok-tried.ensures.reads.same.told told in
    let moved = c.in_ok-tried.ensures.reads.same.same_state told in
    let valid = c.requires.valid before in
    let cut : (i : ℕ) → shown_by rest i ≡ (not (shown_by near i) && shown_by labels i) =
    λ i. c.remove_all.ensures i ∙ ap (λ (l : List ℕ). not (shown_by l i) && shown_by labels i) c.as_slice-2.ensures.labels in
    let starts : cache_labels put.labels ≡ rest = ap (λ (s : ViewerCache). cache_labels s.labels) c.put_labels.ensures in
    let same : put.answers ≡ cache.answers = ap (λ (s : ViewerCache). s.answers) c.put_labels.ensures in
    subst (λ (s : State). IsUnderway app (worlds_of s) viewer (cache_labels put.labels) put.answers) (sym moved)
    (subst (λ (l : List ℕ). IsUnderway app worlds viewer l put.answers) (sym starts)
    (subst (λ (a : PolicyMemo). IsUnderway app worlds viewer rest a) (sym same)
    (underway_apart app worlds viewer labels cache.stale near rest cache.answers valid.right valid.watched (kept_some app worlds viewer cache labels c.in_ok-rest.ensures valid) c.requires.near.linked cut)))

pub returns-in-Some-clause-valid : goal.returns-in-Some-clause-valid
returns-in-Some-clause-valid g c told =
    let k = g.K.Keeper in
    let app = application_of c.args.app.now in
    let viewer = c.args.viewer.now in
    let worlds = worlds_of (state_of k.seen c.args.work.now) in
    let cache = c.args.cache.now in
    let near = c.args.near.now in
    let labels = c.in_ok-rest.rest in
    let rest = c.remove_all.new.a in
    let put = c.put_labels.new.cache in
    let now = c.in_ok-labels.labels in
    let tried = c.as_slice-3.result.now in
    let known = c.fill.new.cache.answers in
    let filled = c.in_ok-labels.ensures in
    let behind = filled.reads.same.told told in
    let before = c.in_ok-tried.ensures.reads.same.told behind in
    let moved = c.in_ok-tried.ensures.reads.same.same_state behind in
    let valid = c.requires.valid before in
    let kept = kept_some app worlds viewer cache labels c.in_ok-rest.ensures valid in
    let cut : (i : ℕ) → shown_by rest i ≡ (not (shown_by near i) && shown_by labels i) =
    λ i. c.remove_all.ensures i ∙ ap (λ (l : List ℕ). not (shown_by l i) && shown_by labels i) c.as_slice-2.ensures.labels in
    let starts : cache_labels put.labels ≡ rest = ap (λ (s : ViewerCache). cache_labels s.labels) c.put_labels.ensures in
    let same : put.answers ≡ cache.answers = ap (λ (s : ViewerCache). s.answers) c.put_labels.ensures in
    let live = subst (λ (l : List ℕ). AreLiveOf app worlds near l) (sym c.as_slice-3.ensures.value) (subst (λ (l : List ℕ). AreLiveOf app worlds l c.in_ok-tried.tried.items) c.as_slice.ensures.labels (c.in_ok-tried.ensures.live behind)) in
    let within = subst (λ (l : List ℕ). Within tried l now) starts filled.within in
    let retains = subst (λ (l : List ℕ). Retains l now cache.answers known) starts (subst (λ (a : PolicyMemo). Retains (cache_labels put.labels) now a known) same filled.retains) in
    subst (λ (s : ViewerCache). IsValidCache app worlds viewer s) (sym c.put_labels-in-Some.ensures)
    (valid_apart app worlds viewer labels cache.stale near rest cache.answers valid.right valid.watched kept c.requires.near.linked cut now tried known live within retains c.in-Some.stale
    (subst (λ (s : State). IsUnderway app (worlds_of s) viewer now known) moved (filled.underway told))
    (subst (λ (s : State). AreRefused app (worlds_of s) viewer known tried now) moved (filled.refused told)))

pub returns-in-Some-clause-apart : goal.returns-in-Some-clause-apart
returns-in-Some-clause-apart g c told =
    let k = g.K.Keeper in
    let app = application_of c.args.app.now in
    let viewer = c.args.viewer.now in
    let worlds = worlds_of (state_of k.seen c.args.work.now) in
    let cache = c.args.cache.now in
    let near = c.args.near.now in
    let labels = c.in_ok-rest.rest in
    let rest = c.remove_all.new.a in
    let put = c.put_labels.new.cache in
    let now = c.in_ok-labels.labels in
    let tried = c.as_slice-3.result.now in
    let known = c.fill.new.cache.answers in
    let filled = c.in_ok-labels.ensures in
    let behind = filled.reads.same.told told in
    let before = c.in_ok-tried.ensures.reads.same.told behind in
    let moved = c.in_ok-tried.ensures.reads.same.same_state behind in
    let valid = c.requires.valid before in
    let kept = kept_some app worlds viewer cache labels c.in_ok-rest.ensures valid in
    let cut : (i : ℕ) → shown_by rest i ≡ (not (shown_by near i) && shown_by labels i) =
    λ i. c.remove_all.ensures i ∙ ap (λ (l : List ℕ). not (shown_by l i) && shown_by labels i) c.as_slice-2.ensures.labels in
    let starts : cache_labels put.labels ≡ rest = ap (λ (s : ViewerCache). cache_labels s.labels) c.put_labels.ensures in
    let same : put.answers ≡ cache.answers = ap (λ (s : ViewerCache). s.answers) c.put_labels.ensures in
    let live = subst (λ (l : List ℕ). AreLiveOf app worlds near l) (sym c.as_slice-3.ensures.value) (subst (λ (l : List ℕ). AreLiveOf app worlds l c.in_ok-tried.tried.items) c.as_slice.ensures.labels (c.in_ok-tried.ensures.live behind)) in
    let within = subst (λ (l : List ℕ). Within tried l now) starts filled.within in
    let retains = subst (λ (l : List ℕ). Retains l now cache.answers known) starts (subst (λ (a : PolicyMemo). Retains (cache_labels put.labels) now a known) same filled.retains) in
    subst (λ (s : ViewerCache). IsWidened cache s) (sym c.put_labels-in-Some.ensures)
    (widened_apart cache (record { labels = Some now; answers = known; stale = c.in-Some.stale }) near labels now c.requires.near.linked c.in_ok-rest.ensures refl
    (same_apart app worlds viewer labels cache.stale near rest cache.answers valid.right valid.watched kept c.requires.near.linked cut now tried known live within retains)
    (subst (λ (o : Option (List ℕ)). Widens known near o) c.in-Some.is c.in_ok-stale.ensures))

pub returns-clause-valid : goal.returns-clause-valid
returns-clause-valid g c told =
    let k = g.K.Keeper in
    let app = application_of c.args.app.now in
    let viewer = c.args.viewer.now in
    let worlds = worlds_of (state_of k.seen c.args.work.now) in
    let cache = c.args.cache.now in
    let near = c.args.near.now in
    let labels = c.in_ok-rest.rest in
    let rest = c.remove_all.new.a in
    let put = c.put_labels.new.cache in
    let now = c.in_ok-labels.labels in
    let tried = c.as_slice-3.result.now in
    let known = c.fill.new.cache.answers in
    let filled = c.in_ok-labels.ensures in
    let behind = filled.reads.same.told told in
    let before = c.in_ok-tried.ensures.reads.same.told behind in
    let moved = c.in_ok-tried.ensures.reads.same.same_state behind in
    let valid = c.requires.valid before in
    let kept = kept_some app worlds viewer cache labels c.in_ok-rest.ensures valid in
    let cut : (i : ℕ) → shown_by rest i ≡ (not (shown_by near i) && shown_by labels i) =
    λ i. c.remove_all.ensures i ∙ ap (λ (l : List ℕ). not (shown_by l i) && shown_by labels i) c.as_slice-2.ensures.labels in
    let starts : cache_labels put.labels ≡ rest = ap (λ (s : ViewerCache). cache_labels s.labels) c.put_labels.ensures in
    let same : put.answers ≡ cache.answers = ap (λ (s : ViewerCache). s.answers) c.put_labels.ensures in
    let live = subst (λ (l : List ℕ). AreLiveOf app worlds near l) (sym c.as_slice-3.ensures.value) (subst (λ (l : List ℕ). AreLiveOf app worlds l c.in_ok-tried.tried.items) c.as_slice.ensures.labels (c.in_ok-tried.ensures.live behind)) in
    let within = subst (λ (l : List ℕ). Within tried l now) starts filled.within in
    let retains = subst (λ (l : List ℕ). Retains l now cache.answers known) starts (subst (λ (a : PolicyMemo). Retains (cache_labels put.labels) now a known) same filled.retains) in
    subst (λ (s : ViewerCache). IsValidCache app worlds viewer s) (sym c.put_labels-in-None.ensures)
    (valid_apart app worlds viewer labels cache.stale near rest cache.answers valid.right valid.watched kept c.requires.near.linked cut now tried known live within retains c.empty-in-None.result
    (subst (λ (s : State). IsUnderway app (worlds_of s) viewer now known) moved (filled.underway told))
    (subst (λ (s : State). AreRefused app (worlds_of s) viewer known tried now) moved (filled.refused told)))

pub returns-clause-apart : goal.returns-clause-apart
returns-clause-apart g c told =
    let k = g.K.Keeper in
    let app = application_of c.args.app.now in
    let viewer = c.args.viewer.now in
    let worlds = worlds_of (state_of k.seen c.args.work.now) in
    let cache = c.args.cache.now in
    let near = c.args.near.now in
    let labels = c.in_ok-rest.rest in
    let rest = c.remove_all.new.a in
    let put = c.put_labels.new.cache in
    let now = c.in_ok-labels.labels in
    let tried = c.as_slice-3.result.now in
    let known = c.fill.new.cache.answers in
    let filled = c.in_ok-labels.ensures in
    let behind = filled.reads.same.told told in
    let before = c.in_ok-tried.ensures.reads.same.told behind in
    let moved = c.in_ok-tried.ensures.reads.same.same_state behind in
    let valid = c.requires.valid before in
    let kept = kept_some app worlds viewer cache labels c.in_ok-rest.ensures valid in
    let cut : (i : ℕ) → shown_by rest i ≡ (not (shown_by near i) && shown_by labels i) =
    λ i. c.remove_all.ensures i ∙ ap (λ (l : List ℕ). not (shown_by l i) && shown_by labels i) c.as_slice-2.ensures.labels in
    let starts : cache_labels put.labels ≡ rest = ap (λ (s : ViewerCache). cache_labels s.labels) c.put_labels.ensures in
    let same : put.answers ≡ cache.answers = ap (λ (s : ViewerCache). s.answers) c.put_labels.ensures in
    let live = subst (λ (l : List ℕ). AreLiveOf app worlds near l) (sym c.as_slice-3.ensures.value) (subst (λ (l : List ℕ). AreLiveOf app worlds l c.in_ok-tried.tried.items) c.as_slice.ensures.labels (c.in_ok-tried.ensures.live behind)) in
    let within = subst (λ (l : List ℕ). Within tried l now) starts filled.within in
    let retains = subst (λ (l : List ℕ). Retains l now cache.answers known) starts (subst (λ (a : PolicyMemo). Retains (cache_labels put.labels) now a known) same filled.retains) in
    subst (λ (s : ViewerCache). IsSettledApart cache s) (sym c.put_labels-in-None.ensures)
    (settled_apart cache (record { labels = Some now; answers = known; stale = c.empty-in-None.result }) near labels now c.requires.near.linked c.in_ok-rest.ensures refl
    (same_apart app worlds viewer labels cache.stale near rest cache.answers valid.right valid.watched kept c.requires.near.linked cut now tried known live within retains)
    (subst (λ (o : Option (List ℕ)). Widens known near o) c.in-None.is c.in_ok-stale.ensures))
