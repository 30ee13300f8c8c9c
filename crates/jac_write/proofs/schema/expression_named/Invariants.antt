use Rattle.std.proofs.Common.{◌≡◌}
use Rattle.jac_lang.specs.Mirror.{assigned_of}
use Rattle.jac_plain.specs.Records.{expression_for}
use Rattle.jac_write.proofs.schema.expression_named.Given as goal

abbrev pub invariant-guards : goal.invariant-guards
invariant-guards l = expression_for l.name (assigned_of l.left) ≡ expression_for l.name (assigned_of l.guards)
