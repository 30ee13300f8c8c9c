use Rattle.std.proofs.Common.{◌||◌, if◌then◌else◌, ◌∙◌, ap, refl, None, List, ℕ}
use Rattle.jac_world.specs.World.{shown_by}
use Rattle.jac_policy_cache.specs.Memo.{recall}
use Rattle.jac_policy_cache.specs.ViewerCache.{is_marked}
use Rattle.jac_policy_cache.proofs.Invalidating.{invalidates_by}
use Rattle.jac_policy_cache.proofs.viewer_cache.ViewerCache.invalidate.Goals as goal

pub returns : goal.returns
returns c =
    let old = c.args.self.now in
    invalidates_by c.args.invalidation.now c.args.viewer.now old (record { labels = old.labels; answers = c.forget_all.new.answers; stale = c.mark_all.new.stale }) c.in_ok-affected.affected refl
    c.in_ok-affected.ensures
    (λ k. c.in_ok-mark_all.ensures k ∙ ap (λ (l : List ℕ). shown_by old.stale k || is_marked old.answers l k) c.as_slice.ensures.labels)
    (λ k w. c.forget_all.ensures.recalls k w ∙ ap (λ (l : List ℕ). if shown_by l k then None else recall old.answers k w) c.as_slice-2.ensures.labels)
    c.forget_all.ensures.watches
