use Rattle.std.proofs.Common.{◌≡◌, take}
use Rattle.jac_value.proofs.list.try_clone_all.Given as goal

abbrev pub invariant-items : goal.invariant-items
invariant-items g l = l.copied.items ≡ take l.item-index l.items
