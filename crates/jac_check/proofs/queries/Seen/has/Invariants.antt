use Rattle.std.proofs.Common.{◌≡◌}
use Rattle.jac_check.specs.Scope.{is_one_of}
use Rattle.jac_check.specs.Mirror.{seen_of}
use Rattle.jac_check.proofs.queries.Seen.has.Given as goal

abbrev pub invariant-names : goal.invariant-names
invariant-names l = is_one_of l.name (seen_of l.left) ≡ is_one_of l.name (seen_of l.self)
