use Rattle.std.proofs.Common.{◌≡◌, ℕ, ◌+◌, ◌-◌, length}
use Rattle.jac_keep.specs.Indexed.{field_index}
use Rattle.jac_keep.proofs.fields.make_room.Given as goal

abbrev pub invariant-places : goal.invariant-places
invariant-places l = (f : ℕ) → field_index f l.fields.items ≡ field_index f l.fn.fields.items

abbrev pub decreases-places : goal.decreases-places
decreases-places l = l.place + 1 - length l.fields.items
