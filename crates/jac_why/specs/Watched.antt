-- The shown labels whose policies are evaluated again if one more label is shown.
use Rattle.std.specs.Prelude.{◌≡◌, ◌==◌, ◌||◌, ℕ, Bool, true, false, List}
use Rattle.std.specs.Ordering.{nat_cmp}
use Rattle.std.specs.BTreeMap.{get}
use Rattle.jac_world.specs.World.{shown_by}
use Rattle.jac_plain.specs.Policies.{is_allowed, with_label}
use Rattle.jac_policy_cache.specs.Memo.{watched_in}
use Rattle.jac_why.specs.declared.watch.Watchers.{Watchers}
use Rattle.jac_why.specs.Context.{PlainContext}

-- The second label is evaluated again if the first one is shown too.
abbrev pub asks_again : Watchers → ℕ → ℕ → Bool
asks_again watchers k j = watched_in (get nat_cmp watchers.lists k) j

-- Showing the first label too doesn't change whether the second one is allowed.
abbrev pub IsUnmoved : PlainContext → ℕ → ℕ → Type 0
IsUnmoved context k j =
    is_allowed context.app (context.worlds (with_label k (shown_by context.labels))) context.viewer
    j
    ≡ is_allowed context.app (context.worlds (shown_by context.labels)) context.viewer j

-- One more label is evaluated again if it has to be.
pub record IsWatching (context : PlainContext) (label : ℕ) (old new : Watchers) : Type 0 where
  pub kept : (k j : ℕ) → asks_again old k j ≡ true → asks_again new k j ≡ true
  pub only : (k j : ℕ) → asks_again new k j ≡ true → (label == j || asks_again old k j) ≡ true
  pub unmoved : (k : ℕ) → asks_again new k label ≡ false → IsUnmoved context k label

-- Each label that is shown, except those that are left, is evaluated again if it has to be. No
-- other label is.
pub record AreWatching (context : PlainContext) (left : List ℕ) (watchers : Watchers) : Type 0 where
  pub among : (k j : ℕ) → asks_again watchers k j ≡ true → shown_by context.labels j ≡ true
  pub unmoved :
      (k j : ℕ) → shown_by context.labels j ≡ true → shown_by left j ≡ false
      → asks_again watchers k j ≡ false → IsUnmoved context k j
