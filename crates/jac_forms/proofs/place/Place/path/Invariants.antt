use Rattle.std.proofs.Common.{◌≡◌}
use Rattle.jac_forms.specs.Places.{path_of}
use Rattle.jac_forms.proofs.Upward.{upward}
use Rattle.jac_forms.proofs.place.Place.path.Given as goal

-- The numbers that are still above, followed by those so far in reverse order, are the whole path.
abbrev pub invariant-up : goal.invariant-up
invariant-up l = upward (path_of l.left) l.numbers.items ≡ path_of l.self
