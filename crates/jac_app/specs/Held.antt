-- What contracts see of the store, counts and caches of a command that answers requests.
use Rattle.std.specs.Prelude.{◌≡◌, ℕ, List}
use Rattle.jac_command_base.specs.Attached.{IsUnattached}
use Rattle.jac_command_base.specs.Files.{Sight, IsIdle}
use Rattle.jac_io.specs.Seen.{SinkSeen}
use Rattle.jac_keep.specs.KeeperSeen.{KeeperSeen}
use Rattle.jac_serve_events.specs.RunSeen.{RunCounts, RunSeen, counts_in, run_seen_of, run_seen_with, keepers}
use Rattle.jac_serve_events.specs.Outside.{Span, span}
use Rattle.jac_viewer_caches.specs.declared.viewer_caches.ViewerEntry.{ViewerEntry}

-- What is seen of the keeper, with these counts, before and after.
abbrev pub held_of : Sight → Span RunCounts → Span RunSeen
held_of seen counts =
    span (run_seen_of seen.keeper.before counts.before) (run_seen_of seen.keeper.after counts.after)

-- The same, with this cached for viewers at the end.
abbrev pub leaving : Span RunSeen → List ViewerEntry → Span RunSeen
leaving k left = span k.before (run_seen_with k.after.keeper (counts_in k.after) left)

-- The same from the opened store on, with the counts of the beginning.
abbrev pub opened_on : KeeperSeen → Span RunSeen → List ViewerEntry → Span RunSeen
opened_on opened k left = leaving (span (run_seen_of opened (counts_in k.before)) k.after) left

-- Nothing was put, the audit wasn't aimed, the keeper wasn't called, and no facet was split.
pub record IsLeftAlone (sink : Span SinkSeen) (k : Span RunSeen) (out audit : List ℕ) : Type 0 where
  pub idle : IsIdle sink (keepers k) out audit
  pub unsplit : k.after.splits ≡ k.before.splits

-- No store was attached, and no facet was split.
pub record IsUnstarted (k : Span RunSeen) (out audit : List ℕ) : Type 0 where
  pub unattached : IsUnattached (keepers k) out audit
  pub unsplit : k.after.splits ≡ k.before.splits
