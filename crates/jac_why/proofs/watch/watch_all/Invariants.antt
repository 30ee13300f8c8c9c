use Rattle.std.proofs.Common.{◌≡◌, ◌==◌, ◌||◌, ◌&&◌, ℕ, drop}
use Rattle.std.specs.Ordering.{nat_cmp}
use Rattle.std.specs.BTreeMap.{get}
use Rattle.jac_world.specs.World.{shown_by}
use Rattle.jac_policy_cache.specs.Memo.{watched_in}
use Rattle.jac_why.proofs.watch.watch_all.Given as goal

abbrev pub invariant-labels : goal.invariant-labels
invariant-labels l = (k j : ℕ) →
    ((shown_by (drop l.watched-index l.consulted) k && l.label == j) || watched_in (get nat_cmp l.lists k) j) ≡ ((shown_by l.consulted k && l.label == j) || watched_in (get nat_cmp l.fn.lists k) j)
