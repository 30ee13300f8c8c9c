-- When a viewer's cache is valid.
use Rattle.std.specs.Prelude.{◌≡◌, ◌⊎◌, ℕ, Bool, true, false, List, [], Option, Some, None, is_some, ⊤}
use Rattle.jac_world.specs.World.{shown_by}
use Rattle.jac_lang.specs.Syntax.{Application}
use Rattle.jac_plain.specs.Policies.{IsLiveLabel, with_label}
use Rattle.jac_plain.specs.Requests.{Worlds}
use Rattle.jac_policy_cache.specs.declared.policy_memo.PolicyMemo.{PolicyMemo}
use Rattle.jac_policy_cache.specs.declared.viewer_cache.ViewerCache.{ViewerCache}
use Rattle.jac_policy_cache.specs.Linked.{AreLinked}
use Rattle.jac_policy_cache.specs.Memo.{AreWatched, IsLinked, recall}
use Rattle.jac_resolve.specs.RightMemo.{AreRight}

-- If label `k` is shown too, some label that is then shown isn't allowed, and this result is
-- cached.
pub record StandsRefused (answers : PolicyMemo) (k : ℕ) (w : ℕ → Bool) : Type 0 where
  pub label : ℕ
  pub is_shown : with_label k w label ≡ true
  pub refused : recall answers label (with_label k w) ≡ Some false

-- Each label that is shown has a cached result that allows it, or it is stale and has no cached
-- results. Of the labels that aren't stale, each that is shown is live, and each live one that is
-- hidden is refused.
pub record AreSettledBut (app : Application) (worlds : Worlds) (answers : PolicyMemo)
    (labels stale : List ℕ) : Type 0 where
  pub stays : (k : ℕ) → shown_by labels k ≡ true →
      (recall answers k (shown_by labels) ≡ Some true)
      ⊎ ((shown_by stale k ≡ true) × ((w : ℕ → Bool) → recall answers k w ≡ None))
  pub live : (k : ℕ) → shown_by labels k ≡ true → shown_by stale k ≡ false → IsLiveLabel app worlds
      k
  pub full : (k : ℕ) → IsLiveLabel app worlds k → shown_by labels k ≡ false → shown_by stale k
      ≡ false →
      StandsRefused answers k (shown_by labels)

abbrev pub AreSettledButIf : Application → Worlds → PolicyMemo → Option (List ℕ) → List ℕ → Type 0
AreSettledButIf app worlds answers None stale = ⊤
AreSettledButIf app worlds answers (Some labels) stale = AreSettledBut app worlds answers labels
    stale

-- The cached results are right, and the labels are settled except for the stale ones.
pub record IsValidCache (app : Application) (worlds : Worlds) (viewer : Option ℕ)
    (cache : ViewerCache) : Type 0 where
  pub right : AreRight app worlds viewer cache.answers
  pub watched : AreWatched cache.answers
  pub kept : AreSettledButIf app worlds cache.answers cache.labels cache.stale

-- The cache has labels, and none is stale.
pub record IsAtRest (cache : ViewerCache) : Type 0 where
  pub labels : is_some cache.labels ≡ true
  pub stale : cache.stale ≡ []

-- The cache has labels. The list has its stale labels and all that they are linked to.
pub record AreNear (cache : ViewerCache) (near : List ℕ) : Type 0 where
  pub settled : is_some cache.labels ≡ true
  pub linked : AreLinked cache.answers cache.stale near

abbrev pub AreNearIf : ViewerCache → Option (List ℕ) → Type 0
AreNearIf cache None = ⊤
AreNearIf cache (Some near) = AreNear cache near

abbrev pub cache_labels : Option (List ℕ) → List ℕ
cache_labels None = []
cache_labels (Some labels) = labels

-- Labels that were stale still are. Apart from stale labels, the same labels are shown.
pub record IsWidened (old new : ViewerCache) : Type 0 where
  pub stale : (k : ℕ) → shown_by old.stale k ≡ true → shown_by new.stale k ≡ true
  pub same : (k : ℕ) → shown_by new.stale k ≡ false
      → shown_by (cache_labels new.labels) k ≡ shown_by (cache_labels old.labels) k

-- The labels that were stale are in a list that no result links to other labels. Apart from this
-- list, the same labels are shown.
pub record IsSettledApart (old new : ViewerCache) : Type 0 where
  pub near : List ℕ
  pub stale : (k : ℕ) → shown_by old.stale k ≡ true → shown_by near k ≡ true
  pub linked : IsLinked new.answers near
  pub same : (k : ℕ) → shown_by near k ≡ false
      → shown_by (cache_labels new.labels) k ≡ shown_by (cache_labels old.labels) k

-- No result links the labels that were tried to others, or they are stale again.
abbrev pub TriesApart : ViewerCache → ViewerCache → Bool → Type 0
TriesApart old new true = IsSettledApart old new
TriesApart old new false = IsWidened old new

-- No result links the labels to others, or the labels are part of a longer list.
abbrev pub Widens : PolicyMemo → List ℕ → Option (List ℕ) → Type 0
Widens answers near None = IsLinked answers near
Widens answers near (Some all) = (k : ℕ) → shown_by near k ≡ true → shown_by all k ≡ true
