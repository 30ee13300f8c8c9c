-- What contracts see of a run: its store, its counts and its caches.
use Rattle.std.specs.Prelude.{◌≡◌, ℕ, ◌+◌, ◌-◌, ◌^◌, ◌≤◌, min, List, []}
use Rattle.jac_keep.specs.KeeperSeen.{KeeperSeen}
use Rattle.jac_viewer_caches.specs.declared.viewer_caches.ViewerEntry.{ViewerEntry}
use Rattle.jac_serve_events.specs.Outside.{Span, span}

-- The number of facets that were split, and of policy evaluations.
pub record RunCounts : Type 0 where
  pub splits : ℕ
  pub evaluations : ℕ

abbrev pub run_counts : ℕ → ℕ → RunCounts
run_counts splits evaluations = record { splits = splits; evaluations = evaluations }

-- What a run sees of its keeper, the number of facets that were split, the number of policy
-- evaluations, and what is cached for viewers.
pub record RunSeen : Type 0 where
  pub keeper : KeeperSeen
  pub splits : ℕ
  pub evaluations : ℕ
  pub viewer_caches : List ViewerEntry

-- A run with this cached for viewers.
abbrev pub run_seen_with : KeeperSeen → RunCounts → List ViewerEntry → RunSeen
run_seen_with keeper counts viewer_caches = record {
  keeper = keeper;
  splits = counts.splits;
  evaluations = counts.evaluations;
  viewer_caches = viewer_caches;
}

-- A run with nothing cached for viewers, as at the beginning of each command.
abbrev pub run_seen_of : KeeperSeen → RunCounts → RunSeen
run_seen_of keeper counts = run_seen_with keeper counts []

-- The counts.
abbrev pub counts_in : RunSeen → RunCounts
counts_in seen = run_counts seen.splits seen.evaluations

-- The keeper alone.
abbrev pub keepers : Span RunSeen → Span KeeperSeen
keepers k = span k.before.keeper k.after.keeper

-- It was not called.
abbrev pub IsStill : {X : Type 0} → Span X → Type 0
IsStill k = k.after ≡ k.before

-- A count grew by at least this much, or is at its maximum.
abbrev pub Grew : ℕ → ℕ → ℕ → Type 0
Grew before by now = min (before + by) (2 ^ 64 - 1) ≤ now
