use Rattle.std.proofs.Common.{◌≡◌, ◌||◌, ℕ, true}
use Rattle.std.specs.List.{AllByRecursion, Contains}
use Rattle.std.specs.Vec.Iter.{into_iter_items}
use Rattle.jac_upgrade.specs.Steps.{IsOwnAlteration, is_changed}
use Rattle.jac_upgrade.proofs.order.put_all.Given as goal

abbrev pub invariant-made : goal.invariant-made
invariant-made l =
    AllByRecursion IsOwnAlteration (into_iter_items l.alteration-iterator)
    × AllByRecursion (Contains l.fn.made.items) (into_iter_items l.alteration-iterator)
    × AllByRecursion (Contains l.fn.made.items) l.changed
    × ((id : ℕ) → is_changed id l.fn.made.items ≡ true → (is_changed id l.changed || is_changed id (into_iter_items l.alteration-iterator)) ≡ true)
