use Rattle.std.proofs.Common.{◌≡◌, ℕ, ◌+◌, ◌-◌, length}
use Rattle.jac_table_cache.specs.Held.{held}
use Rattle.jac_table_cache.proofs.held.make_room.Given as goal

abbrev pub invariant-places : goal.invariant-places
invariant-places l = (m : ℕ) → held m l.tables.items ≡ held m l.fn.tables.items

abbrev pub decreases-places : goal.decreases-places
decreases-places l = l.at + 1 - length l.tables.items
