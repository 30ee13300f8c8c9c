use Rattle.std.proofs.Common.{◌≡◌}
use Rattle.jac_lang.specs.Lookup.{names_field}
use Rattle.jac_lang.specs.Mirror.{assigned_of}
use Rattle.jac_check.proofs.models.guards_field.Given as goal

abbrev pub invariant-guards : goal.invariant-guards
invariant-guards l = names_field l.name (assigned_of l.left) ≡ names_field l.name (assigned_of l.group.guards)
