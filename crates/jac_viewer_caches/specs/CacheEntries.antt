-- The caches of viewers, and what a change removes from them.
use Rattle.std.specs.Prelude.{◌≡◌, ◌⊎◌, ℕ, Option, List, [], ◌∷◌}
use Rattle.jac_policy_cache.specs.declared.viewer_cache.ViewerCache.{ViewerCache}
use Rattle.jac_policy_cache.specs.declared.invalidation.Invalidation.{Invalidation}
use Rattle.jac_policy_cache.specs.ViewerCache.{Invalidates}
use Rattle.jac_viewer_caches.specs.declared.viewer_caches.ViewerEntry.{ViewerEntry}

-- The entry is one of these.
abbrev pub IsOneOf : ViewerEntry → List ViewerEntry → Type 0
IsOneOf s [] = ⊥
IsOneOf s (x ∷ xs) = (s ≡ x) ⊎ IsOneOf s xs

abbrev pub entry_of : Option ℕ → ViewerCache → ViewerEntry
entry_of viewer cache = record { viewer = viewer; cache = cache }

-- A cache was kept for this viewer, and the change invalidated it.
pub record WasInvalidated (invalidation : Invalidation) (old : List ViewerEntry)
    (s : ViewerEntry) : Type 0 where
  pub before : ViewerCache
  pub kept : IsOneOf (entry_of s.viewer before) old
  pub invalidated : Invalidates invalidation s.viewer before s.cache

-- The change invalidated each entry that is left.
pub record AreInvalidated (invalidation : Invalidation) (old new : List ViewerEntry) : Type 0 where
  pub each : (s : ViewerEntry) → IsOneOf s new → WasInvalidated invalidation old s
