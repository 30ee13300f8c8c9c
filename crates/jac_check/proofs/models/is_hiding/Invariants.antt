use Rattle.std.proofs.Common.{◌≡◌, drop}
use Rattle.jac_lang.specs.Mirror.{groups_of}
use Rattle.jac_check.specs.Scope.{is_hiding}
use Rattle.jac_check.proofs.models.is_hiding.Given as goal

abbrev pub invariant-loop-group : goal.invariant-loop-group
invariant-loop-group l = is_hiding (groups_of (drop l.group-index l.groups)) ≡ is_hiding (groups_of l.groups)
