use Rattle.std.proofs.Common.{◌≡◌, [], drop}
use Rattle.jac_lang.specs.Mirror.{pages_of}
use Rattle.jac_route.specs.Firsts.{firsts_at, table_by}
use Rattle.jac_route.proofs.routes.router_by.Given as goal

-- The table so far, with the views that are left, is the result.
abbrev pub invariant-views : goal.invariant-views
invariant-views l =
    (l.number ≡ l.view-index)
    × (table_by (firsts_at l.firsts) l.number (pages_of (drop l.view-index l.views)) l.router ≡ table_by (firsts_at l.firsts) 0 (pages_of l.views) [])
