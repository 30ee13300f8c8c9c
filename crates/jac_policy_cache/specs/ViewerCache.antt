-- The cache of one viewer, and what a change leaves of it.
use Rattle.std.specs.Prelude.{◌≡◌, ◌==◌, ◌||◌, ℕ, Bool, true, List, Option, None, if◌then◌else◌}
use Rattle.std.specs.List.{list_any}
use Rattle.jac_world.specs.World.{shown_by}
use Rattle.jac_policy_cache.specs.declared.policy_memo.PolicyMemo.{PolicyMemo}
use Rattle.jac_policy_cache.specs.declared.viewer_cache.ViewerCache.{ViewerCache}
use Rattle.jac_policy_cache.specs.declared.invalidation.Invalidation.{Invalidation}
use Rattle.jac_policy_cache.specs.Memo.{recall, watches, depends, is_asked}
use Rattle.jac_policy_cache.specs.Affected.{affects}

-- The results of affected labels are forgotten. These labels are stale, and so are all labels that
-- their results depended on.
pub record Invalidates (invalidation : Invalidation) (viewer : Option ℕ)
    (old new : ViewerCache) : Type 0 where
  pub labels : new.labels ≡ old.labels
  pub recalls : (k : ℕ) (w : ℕ → Bool) → recall new.answers k w ≡
      (if affects invalidation viewer k then None else recall old.answers k w)
  pub watching : (k j : ℕ) → watches new.answers k j ≡ watches old.answers k j
  pub stale : (k : ℕ) → shown_by old.stale k ≡ true → shown_by new.stale k ≡ true
  pub named : (k : ℕ) → shown_by invalidation.labels k ≡ true → shown_by new.stale k ≡ true
  pub dropped : (k : ℕ) → affects invalidation viewer k ≡ true → is_asked old.answers k ≡ true
      → shown_by new.stale k ≡ true
  pub dependent : (j k : ℕ) → affects invalidation viewer j ≡ true → depends old.answers j k ≡ true
      → shown_by new.stale k ≡ true

-- No result is cached, and no labels have been settled.
pub record IsEmptyCache (cache : ViewerCache) : Type 0 where
  pub labels : cache.labels ≡ None
  pub recalls : (k : ℕ) (w : ℕ → Bool) → recall cache.answers k w ≡ None

-- The label is one of these, or a result of one of these depends on it.
abbrev pub is_marked : PolicyMemo → List ℕ → ℕ → Bool
is_marked answers labels k = list_any (λ (j : ℕ). j == k || depends answers j k) labels
