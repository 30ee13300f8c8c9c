use Rattle.std.proofs.Common.{◌≡◌, drop}
use Rattle.jac_check.specs.Scope.{has_field}
use Rattle.jac_check.proofs.models.has_field.Given as goal

abbrev pub invariant-loop-field : goal.invariant-loop-field
invariant-loop-field l = has_field l.name (drop l.field-index l.fields) ≡ has_field l.name l.fields
