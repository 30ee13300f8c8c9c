use Rattle.std.proofs.Common.{◌≡◌, take, length}
use Rattle.jac_pruned_pages.proofs.kept_names.unbind.Given as goal

-- The first bindings stay.
abbrev pub invariant-bindings : goal.invariant-bindings
invariant-bindings l = take l.outer l.env.items ≡ take l.outer l.fn.env.items

abbrev pub decreases-bindings : goal.decreases-bindings
decreases-bindings l = length l.env.items
