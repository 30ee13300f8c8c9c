-- What is seen of a keeper and its counts after the dispatcher over them has ended.
use Rattle.std.proofs.Common.{◌≡◌, sym, subst, ℕ, List, []}
use Rattle.jac_keep.specs.KeeperSeen.{KeeperSeen}
use Rattle.jac_serve_events.specs.Outside.{Span, span}
use Rattle.jac_serve_events.specs.RunSeen.{RunCounts, run_counts, RunSeen, run_seen_of, run_seen_with}
use Rattle.jac_viewer_caches.specs.declared.viewer_caches.ViewerEntry.{ViewerEntry}

-- At the beginning nothing was cached for viewers, and the keeper and the counts are those that the
-- dispatcher left.
pub over_dispatcher : {K : Type 0} (seen : K → KeeperSeen) (P : Span RunSeen → Type 0) (opened : KeeperSeen) (counts : RunCounts) (viewer_caches left : List ViewerEntry) (vault last : K) (splits more_splits evaluations more_evaluations : ℕ)
    → viewer_caches ≡ [] → last ≡ vault → more_splits ≡ splits → more_evaluations ≡ evaluations
    → P (span (run_seen_with opened counts viewer_caches) (run_seen_with (seen vault) (run_counts splits evaluations) left))
    → P (span (run_seen_of opened counts) (run_seen_with (seen last) (run_counts more_splits more_evaluations) left))
over_dispatcher {K} seen P opened counts viewer_caches left vault last splits more_splits evaluations more_evaluations none is_vault is_splits is_evaluations h =
    subst (λ (v : K). P (span (run_seen_of opened counts) (run_seen_with (seen v) (run_counts more_splits more_evaluations) left))) (sym is_vault)
    (subst (λ (n : ℕ). P (span (run_seen_of opened counts) (run_seen_with (seen vault) (run_counts n more_evaluations) left))) (sym is_splits)
    (subst (λ (n : ℕ). P (span (run_seen_of opened counts) (run_seen_with (seen vault) (run_counts splits n) left))) (sym is_evaluations)
    (subst (λ (kept : List ViewerEntry). P (span (run_seen_with opened counts kept) (run_seen_with (seen vault) (run_counts splits evaluations) left))) none h)))
